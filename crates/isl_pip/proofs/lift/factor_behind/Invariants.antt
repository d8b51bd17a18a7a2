use Rattle.std.proofs.Common.{◌≤ℤ◌, pos}
use Rattle.isl_meter.specs.Gauge.{IsWithin}
use Rattle.isl_pip.proofs.lift.factor_behind.Given as goal

abbrev pub invariant-loop-coef : goal.invariant-loop-coef
invariant-loop-coef l = IsWithin l.fn.meter l.factor × (pos 0 ≤ℤ l.factor)
