use Rattle.std.proofs.Common.{take}
use Rattle.std.specs.List.{All}
use Rattle.isl_meter.specs.Gauge.{IsCharged}
use Rattle.isl_extremes.specs.Systems.{IsEnded}
use Rattle.isl_extremes.proofs.ends.are_ended.Given as goal

abbrev pub invariant-loop-system : goal.invariant-loop-system
invariant-loop-system l = record {
  ended : All (IsEnded l.order l.at) (take l.system-index l.systems);
  charged : IsCharged l.fn.meter l.meter;
}
