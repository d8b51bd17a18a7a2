use Rattle.std.proofs.Common.{take}
use Rattle.std.specs.List.{AllZip}
use Rattle.isl_meter.specs.Gauge.{IsCharged}
use Rattle.isl_calls.specs.Items.{IsItemOf}
use Rattle.isl_calls.proofs.items.all_items.Given as goal

abbrev pub invariant-loop-one : goal.invariant-loop-one
invariant-loop-one l = AllZip (IsItemOf l.fn.meter l.params) (take l.one-index l.calls) l.items.items × IsCharged l.fn.meter l.meter
