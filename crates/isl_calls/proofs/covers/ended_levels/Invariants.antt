use Rattle.isl_calls.proofs.EndedLaws.{AreSoFar}
use Rattle.isl_calls.proofs.covers.ended_levels.Given as goal

abbrev pub invariant-loop-height : goal.invariant-loop-height
invariant-loop-height l = AreSoFar l.meter l.system l.outer l.height l.levels.items
