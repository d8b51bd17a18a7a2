use Rattle.isl_state.proofs.LeftLaws.{IsLeftSoFar}
use Rattle.isl_state.proofs.state.left_of.Given as goal

abbrev pub invariant-loop-name : goal.invariant-loop-name
invariant-loop-name l = IsLeftSoFar l.assumed l.fn.meter l.meter l.bound.entries l.name-iterator l.left.entries
