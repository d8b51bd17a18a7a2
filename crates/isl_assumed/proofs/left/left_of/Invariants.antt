use Rattle.std.proofs.Common.{take}
use Rattle.isl_meter.specs.Gauge.{IsCharged}
use Rattle.isl_assumed.specs.Left.{AreLeftOf}
use Rattle.isl_assumed.proofs.left.left_of.Given as goal

abbrev pub invariant-loop-system : goal.invariant-loop-system
invariant-loop-system l = record {
  left : AreLeftOf l.fn.meter l.kept l.count (take l.system-index l.systems) l.left.items;
  charged : IsCharged l.fn.meter l.meter;
}
