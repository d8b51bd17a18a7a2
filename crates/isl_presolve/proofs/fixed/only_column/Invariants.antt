use Rattle.isl_presolve.proofs.FixedLaws.{IsSeen}
use Rattle.isl_presolve.proofs.fixed.only_column.Given as goal

abbrev pub invariant-loop-i : goal.invariant-loop-i
invariant-loop-i l = IsSeen l.coefs l.i l.found
