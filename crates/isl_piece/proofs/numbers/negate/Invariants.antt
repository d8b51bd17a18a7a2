use Rattle.std.proofs.Common.{◌≡◌, drop, take}
use Rattle.isl_piece.proofs.NumberSteps.{negated}
use Rattle.isl_piece.proofs.numbers.negate.Given as goal

abbrev pub invariant-loop-i : goal.invariant-loop-i
invariant-loop-i l = (take l.i l.numbers ≡ negated (take l.i l.initial.numbers)) × (drop l.i l.numbers ≡ drop l.i l.initial.numbers)
