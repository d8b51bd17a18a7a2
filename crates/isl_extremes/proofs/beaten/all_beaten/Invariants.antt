use Rattle.std.proofs.Common.{take}
use Rattle.isl_meter.specs.Gauge.{IsCharged}
use Rattle.isl_extremes.specs.Systems.{AreBeaten}
use Rattle.isl_extremes.proofs.beaten.all_beaten.Given as goal

abbrev pub invariant-loop-system : goal.invariant-loop-system
invariant-loop-system l = record {
  beaten : AreBeaten l.fn.meter l.order l.at (take l.system-index l.systems) l.found.items;
  charged : IsCharged l.fn.meter l.meter;
}
