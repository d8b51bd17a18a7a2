use Rattle.std.proofs.Common.{take}
use Rattle.isl_meter.specs.Gauge.{IsCharged}
use Rattle.isl_images.specs.Made.{elements_of, elements_of_all, ArePiecesOf}
use Rattle.isl_orders.specs.Comparison.{OrderedHas}
use Rattle.isl_orders.proofs.compare.compared_with.Given as goal

abbrev pub invariant-loop-other : goal.invariant-loop-other
invariant-loop-other l = record {
  made : ArePiecesOf l.fn.meter l.params ⊥
      (λ v. OrderedHas l.comparison.operands l.comparison.order (elements_of l.params l.piece v)
      (elements_of_all l.params (take l.other-index l.others) v)) l.made.items;
  charged : IsCharged l.fn.meter l.meter;
}
