use Rattle.std.proofs.Common.{◌≤◌, drop, length}
use Rattle.std.specs.List.{All}
use Rattle.isl_meter.specs.Gauge.{IsCharged}
use Rattle.isl_loops.specs.Together.{ComesBefore}
use Rattle.isl_loops.proofs.groups.trailing.Given as goal

abbrev pub invariant-loop-from : goal.invariant-loop-from
invariant-loop-from l =
    (l.least ≤ l.from) × (l.from ≤ length l.groups) × All (λ group. All (ComesBefore l.place l.item) group.items) (drop l.from l.groups)
    × IsCharged l.fn.meter l.meter

abbrev pub decreases-loop-from : goal.decreases-loop-from
decreases-loop-from l = l.from
