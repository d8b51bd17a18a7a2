use Rattle.std.proofs.Common.{◌≡◌, ◌≤◌, take}
use Rattle.isl_meter.specs.Gauge.{IsWithin}
use Rattle.isl_shadows.specs.Residue.{IsPeriod}
use Rattle.isl_column.proofs.residue.common_period.Given as goal

abbrev pub invariant-loop-i : goal.invariant-loop-i
invariant-loop-i l = record {
  is_period : IsPeriod l.column.at (take l.i l.rows) l.period;
  within : IsWithin l.fn.meter l.period;
  at_least_one : 1 ≤ l.i;
  same : l.meter ≡ l.fn.meter;
}
