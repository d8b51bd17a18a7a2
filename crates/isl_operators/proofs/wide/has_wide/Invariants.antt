use Rattle.std.proofs.Common.{take}
use Rattle.std.specs.List.{Any}
use Rattle.isl_operators.specs.Pairing.{IsWideOfSets}
use Rattle.isl_operators.proofs.wide.has_wide.Given as goal

abbrev pub invariant-loop-other : goal.invariant-loop-other
invariant-loop-other l = ¬ Any (λ other. IsWideOfSets l.pairing l.piece.space other.space) (take l.other-index l.others)
