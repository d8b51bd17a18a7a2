use Rattle.std.proofs.Common.{◌≡◌, take}
use Rattle.isl_piece.proofs.NumberSteps.{negated}
use Rattle.isl_coalesce.proofs.parts.negatives.Given as goal

abbrev pub invariant-loop-number : goal.invariant-loop-number
invariant-loop-number l = l.coefs ≡ negated (take l.number-index l.numbers)
