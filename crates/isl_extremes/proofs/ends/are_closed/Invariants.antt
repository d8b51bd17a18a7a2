use Rattle.std.proofs.Common.{take}
use Rattle.std.specs.List.{All}
use Rattle.isl_meter.specs.Gauge.{IsCharged}
use Rattle.isl_extremes.specs.Systems.{IsClosedOn}
use Rattle.isl_extremes.proofs.ends.are_closed.Given as goal

abbrev pub invariant-loop-system : goal.invariant-loop-system
invariant-loop-system l = record {
  closed : All (IsClosedOn l.direction) (take l.system-index l.systems);
  charged : IsCharged l.fn.meter l.meter;
}
