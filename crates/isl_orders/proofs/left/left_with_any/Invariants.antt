use Rattle.std.proofs.Common.{take}
use Rattle.isl_meter.specs.Gauge.{IsCharged}
use Rattle.isl_orders.specs.Left.{AreLeftWith}
use Rattle.isl_orders.proofs.left.left_with_any.Given as goal

abbrev pub invariant-loop-case : goal.invariant-loop-case
invariant-loop-case l = record {
  left : AreLeftWith l.fn.meter l.system (take l.case-index l.cases) l.kept l.count l.left.items;
  charged : IsCharged l.fn.meter l.meter;
}
