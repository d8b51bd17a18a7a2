use Rattle.std.proofs.Common.{take}
use Rattle.std.specs.List.{All}
use Rattle.isl_meter.specs.Gauge.{IsCharged}
use Rattle.isl_tower.specs.Closed.{IsClosed}
use Rattle.isl_tower.proofs.bounded.are_closed.Given as goal

abbrev pub invariant-loop-system : goal.invariant-loop-system
invariant-loop-system l = All IsClosed (take l.system-index l.systems) × IsCharged l.fn.meter l.meter
