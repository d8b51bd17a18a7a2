use Rattle.isl_bounds.proofs.FormLaws.{AreSummands}
use Rattle.isl_bounds.proofs.form.summands.Given as goal

abbrev pub invariant-loop-i : goal.invariant-loop-i
invariant-loop-i l = AreSummands l.coefs l.i l.items
