use Rattle.std.proofs.Common.{◌+◌, ◌-◌, length}
use Rattle.std.specs.List.{All}
use Rattle.isl_meter.specs.Gauge.{IsCharged}
use Rattle.isl_loop.specs.Printable.{IsPrintable}
use Rattle.isl_nest.specs.Changing.{AsksWhatChanges}
use Rattle.isl_loops.proofs.GroupedLaws.{AreMade}
use Rattle.isl_loops.proofs.together.+together.Given as goal

abbrev pub decreases-together : goal.decreases-together
decreases-together l = l.extent.params + l.extent.times - length l.place.now.frame

abbrev pub invariant-loop-group : goal.invariant-loop-group
invariant-loop-group l =
    AreMade l.fn.meter l.place l.fn.items.items l.group-iterator.rest.items l.parts × IsCharged l.fn.meter l.meter
    × All (AsksWhatChanges l.place.variables) l.parts × All (IsPrintable l.place.variables) l.parts
