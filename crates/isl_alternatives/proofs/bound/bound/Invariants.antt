use Rattle.isl_alternatives.proofs.BoundLaws.{IsBodySoFar}
use Rattle.isl_alternatives.proofs.bound.bound.Given as goal

abbrev pub invariant-loop-binder : goal.invariant-loop-binder
invariant-loop-binder l = IsBodySoFar l.fn.meter l.meter l.scope l.binders l.binder-index l.names l.system
