use Rattle.std.proofs.Common.{◌≡◌, ◌+◌}
use Rattle.isl_meter.specs.Gauge.{IsCharged}
use Rattle.isl_cert.proofs.within.pay.Given as goal

abbrev pub invariant-loop-unit : goal.invariant-loop-unit
invariant-loop-unit l = (l.meter.units ≡ l.fn.meter.units + l._unit) × IsCharged l.fn.meter l.meter
