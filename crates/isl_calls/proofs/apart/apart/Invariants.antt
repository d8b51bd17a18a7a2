use Rattle.std.proofs.Common.{take}
use Rattle.isl_meter.specs.Gauge.{IsCharged}
use Rattle.isl_calls.specs.Apart.{AreApartOf}
use Rattle.isl_calls.proofs.apart.apart.Given as goal

abbrev pub invariant-loop-i : goal.invariant-loop-i
invariant-loop-i l = AreApartOf l.fn.meter (take l.i l.calls) l.apart.items × IsCharged l.fn.meter l.meter
