use Rattle.std.proofs.Common.{length}
use Rattle.isl_pip.proofs.LiftedLaws.{AreCut}
use Rattle.isl_pip.proofs.lift.cut_off.Given as goal

abbrev pub invariant-loop-i : goal.invariant-loop-i
invariant-loop-i l = AreCut l.fn.meter (length l.row.coefs) l.column l.i l.coefs
