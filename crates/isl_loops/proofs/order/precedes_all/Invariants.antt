use Rattle.std.proofs.Common.{take}
use Rattle.std.specs.List.{All}
use Rattle.isl_meter.specs.Gauge.{IsCharged}
use Rattle.isl_loops.specs.Order.{SystemsPrecede}
use Rattle.isl_loops.proofs.order.precedes_all.Given as goal

abbrev pub invariant-loop-other : goal.invariant-loop-other
invariant-loop-other l = All (SystemsPrecede l.place l.one) (take l.other-index l.others) × IsCharged l.fn.meter l.meter
