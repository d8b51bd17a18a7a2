use Rattle.std.proofs.Common.{take}
use Rattle.std.specs.List.{All}
use Rattle.isl_meter.specs.Gauge.{IsCharged}
use Rattle.isl_loops.specs.Order.{SystemsPrecede}
use Rattle.isl_loops.proofs.order.comes_before.Given as goal

abbrev pub invariant-loop-system : goal.invariant-loop-system
invariant-loop-system l =
    All (λ s. All (SystemsPrecede l.place s) l.others) (take l.system-index l.system-items) × IsCharged l.fn.meter l.meter
