use Rattle.std.proofs.Common.{◌≡◌, negsuc, take}
use Rattle.isl_math.specs.Dot.{scaled}
use Rattle.isl_difference.proofs.bounds.are_opposite.Given as goal

abbrev pub invariant-loop-i : goal.invariant-loop-i
invariant-loop-i l = take l.i l.other ≡ scaled (negsuc 0) (take l.i l.one)
