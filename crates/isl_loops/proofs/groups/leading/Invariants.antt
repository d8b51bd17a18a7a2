use Rattle.std.proofs.Common.{◌-◌, ◌≤◌, ◌∷◌, [], length, take}
use Rattle.std.specs.List.{All}
use Rattle.isl_meter.specs.Gauge.{IsCharged}
use Rattle.isl_loops.specs.Together.{AllComeBefore}
use Rattle.isl_loops.proofs.groups.leading.Given as goal

abbrev pub invariant-loop-count : goal.invariant-loop-count
invariant-loop-count l =
    (l.count ≤ length l.groups) × All (λ group. AllComeBefore l.place group.items (l.item ∷ [])) (take l.count l.groups)
    × IsCharged l.fn.meter l.meter

abbrev pub decreases-loop-count : goal.decreases-loop-count
decreases-loop-count l = length l.groups - l.count
