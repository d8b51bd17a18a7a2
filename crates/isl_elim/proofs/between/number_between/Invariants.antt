use Rattle.isl_elim.proofs.BetweenLaws.{IsSeen}
use Rattle.isl_elim.proofs.between.number_between.Given as goal

abbrev pub invariant-loop-i : goal.invariant-loop-i
invariant-loop-i l = IsSeen l.fn.meter l.meter l.rows l.point l.col l.i l.bounds
