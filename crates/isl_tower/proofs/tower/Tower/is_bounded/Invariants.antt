use Rattle.isl_meter.specs.Gauge.{IsCharged}
use Rattle.isl_tower.proofs.BoundedLaws.{AreClosedUpTo}
use Rattle.isl_tower.proofs.tower.Tower.is_bounded.Given as goal

abbrev pub invariant-loop-height : goal.invariant-loop-height
invariant-loop-height l = AreClosedUpTo l.self l.height × IsCharged l.fn.meter l.meter
