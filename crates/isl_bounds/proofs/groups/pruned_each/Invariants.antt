use Rattle.std.proofs.Common.{take}
use Rattle.std.specs.List.{AllZip}
use Rattle.isl_meter.specs.Gauge.{IsCharged}
use Rattle.isl_bounds.proofs.PrunedLaws.{IsFewer}
use Rattle.isl_bounds.proofs.groups.pruned_each.Given as goal

abbrev pub invariant-loop-rows : goal.invariant-loop-rows
invariant-loop-rows l =
    AllZip (IsFewer l.columns l.context l.groups) (take l.rows-index l.groups) l.kept.items × IsCharged l.fn.meter l.meter
