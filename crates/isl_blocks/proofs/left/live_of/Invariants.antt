use Rattle.std.proofs.Common.{take}
use Rattle.isl_meter.specs.Gauge.{IsCharged}
use Rattle.isl_blocks.specs.Left.{AreLiveOf}
use Rattle.isl_blocks.proofs.left.live_of.Given as goal

abbrev pub invariant-loop-system : goal.invariant-loop-system
invariant-loop-system l = record {
  live : AreLiveOf l.fn.meter l.kept (take l.system-index l.systems) l.left.items;
  charged : IsCharged l.fn.meter l.meter;
}
