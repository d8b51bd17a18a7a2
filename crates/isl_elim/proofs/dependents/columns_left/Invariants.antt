use Rattle.isl_elim.proofs.LeftLaws.{IsLeftUpTo}
use Rattle.isl_elim.proofs.dependents.columns_left.Given as goal

abbrev pub invariant-loop-i : goal.invariant-loop-i
invariant-loop-i l = IsLeftUpTo l.fn._meter l.system l.cols l.i l.left
