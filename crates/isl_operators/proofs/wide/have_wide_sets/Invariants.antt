use Rattle.std.proofs.Common.{take}
use Rattle.std.specs.List.{Any}
use Rattle.isl_operators.specs.Pairing.{IsWideOfSets}
use Rattle.isl_operators.proofs.wide.have_wide_sets.Given as goal

abbrev pub invariant-loop-piece : goal.invariant-loop-piece
invariant-loop-piece l = ¬ Any (λ piece. Any (λ other. IsWideOfSets l.pairing piece.space other.space) l.others)
    (take l.piece-index l.pieces)
