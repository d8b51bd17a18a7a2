use Rattle.std.proofs.Common.{take}
use Rattle.isl_alternatives.specs.Restricted.{AreProjected}
use Rattle.isl_alternatives.proofs.bound.projected.Given as goal

abbrev pub invariant-loop-system : goal.invariant-loop-system
invariant-loop-system l = AreProjected l.fn.meter l.meter l.outer l.inner (take l.system-index l.systems) l.found.items
