use Rattle.isl_extremes.specs.Systems.{AreSoFar}
use Rattle.isl_extremes.proofs.systems.first_systems.Given as goal

abbrev pub invariant-loop-at : goal.invariant-loop-at
invariant-loop-at l = AreSoFar l.fn.meter l.meter l.order l.at l.systems l.left.items
