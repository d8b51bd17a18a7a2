use Rattle.std.proofs.Common.{◌≡◌, negsuc, length, take}
use Rattle.isl_math.specs.Dot.{scaled}
use Rattle.isl_elim.proofs.narrow.are_opposite.Given as goal

abbrev pub invariant-loop-i : goal.invariant-loop-i
invariant-loop-i l = (length l.upper ≡ length l.lower) × (take l.i l.upper ≡ scaled (negsuc 0) (take l.i l.lower))
