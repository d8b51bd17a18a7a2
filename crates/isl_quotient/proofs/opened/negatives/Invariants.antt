use Rattle.std.proofs.Common.{◌≡◌, negsuc, take}
use Rattle.isl_math.specs.Dot.{scaled}
use Rattle.isl_quotient.proofs.opened.negatives.Given as goal

abbrev pub invariant-loop-i : goal.invariant-loop-i
invariant-loop-i l = l.coefs ≡ scaled (negsuc 0) (take l.i l.numbers)
