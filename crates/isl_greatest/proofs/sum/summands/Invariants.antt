use Rattle.isl_greatest.specs.Summands.{AreSummands}
use Rattle.isl_greatest.proofs.sum.summands.Given as goal

abbrev pub invariant-loop-i : goal.invariant-loop-i
invariant-loop-i l = AreSummands l.coefs l.i l.items
