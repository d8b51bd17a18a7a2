use Rattle.std.proofs.Common.{◌≡◌, take}
use Rattle.isl_meter.specs.Gauge.{IsWithin}
use Rattle.isl_greatest.specs.Parts.{IsPeriodOf}
use Rattle.isl_greatest.proofs.case.period_of.Given as goal

abbrev pub invariant-loop-row : goal.invariant-loop-row
invariant-loop-row l = IsPeriodOf (take l.row-index l.rows) l.period × IsWithin l.fn.meter l.period × (l.meter ≡ l.fn.meter)
