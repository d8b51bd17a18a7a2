use Rattle.std.proofs.Common.{Any, take}
use Rattle.isl_operators.proofs.SpaceLaws.{IsOfSets}
use Rattle.isl_operators.proofs.spaces.has_sets.Given as goal

abbrev pub invariant-loop-piece : goal.invariant-loop-piece
invariant-loop-piece l = ¬ Any (λ piece. IsOfSets piece.space) (take l.piece-index l.piece-items)
