use Rattle.std.proofs.Common.{◌≤◌, max, ℤ, pos}
use Rattle.isl_math.specs.Divide.{IsGcdOf}
use Rattle.isl_meter.proofs.small_gcd.Given as goal

abbrev pub invariant-loop-y : goal.invariant-loop-y
invariant-loop-y l = (max l.x l.y ≤ max l.fn.a l.fn.b) × ((g : ℤ) → IsGcdOf (pos l.x) (pos l.y) g → IsGcdOf (pos l.fn.a) (pos l.fn.b) g)

abbrev pub decreases-loop-y : goal.decreases-loop-y
decreases-loop-y l = l.y
