use Rattle.std.proofs.Common.{◌≤◌, length}
use Rattle.std.specs.List.{All}
use Rattle.isl_meter.specs.Gauge.{IsCharged}
use Rattle.isl_bounds.specs.Pruned.{AreFewer, IsBareGroup}
use Rattle.isl_bounds.proofs.PrunedLaws.{NoneBeatenFrom}
use Rattle.isl_bounds.proofs.groups.pruned.Given as goal

abbrev pub invariant-loop-at : goal.invariant-loop-at
invariant-loop-at l =
    (l.at ≤ length l.kept.items) × AreFewer l.columns l.context l.groups l.kept.items × IsCharged l.fn.meter l.meter
    × NoneBeatenFrom l.columns l.context l.at l.kept.items × All (IsBareGroup l.columns l.context) l.kept.items

abbrev pub decreases-loop-at : goal.decreases-loop-at
decreases-loop-at l = l.at
