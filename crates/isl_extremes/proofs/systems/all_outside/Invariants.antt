use Rattle.std.proofs.Common.{take}
use Rattle.isl_meter.specs.Gauge.{IsCharged}
use Rattle.isl_extremes.specs.Systems.{AreOutside}
use Rattle.isl_extremes.proofs.systems.all_outside.Given as goal

abbrev pub invariant-loop-system : goal.invariant-loop-system
invariant-loop-system l = record {
  left : AreOutside l.fn.meter l.columns (take l.system-index l.systems) l.fn.others l.left.items;
  charged : IsCharged l.fn.meter l.meter;
}
