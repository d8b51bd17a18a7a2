use Rattle.std.proofs.Common.{arith}
use Rattle.isl_math.proofs.DivideLaws.{IsGcdOf-from_mod, IsGcdOf-from_zero}
use Rattle.isl_meter.proofs.small_gcd.Goals as goal

pub loop-y-preserved : goal.loop-y-preserved
loop-y-preserved c =
    (omega arith, λ g h. c.loop-y.invariant.1 g (IsGcdOf-from_mod c.loop-y.x c.loop-y.y g h))

pub returns-clause-value : goal.returns-clause-value
returns-clause-value c =
    c.loop-y.invariant.1 _ (IsGcdOf-from_zero c.loop-y.x c.loop-y.y (omega arith))
