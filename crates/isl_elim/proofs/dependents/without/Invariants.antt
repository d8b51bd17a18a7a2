use Rattle.std.proofs.Common.{◌≡◌, take}
use Rattle.isl_elim.specs.Elimination.{without}
use Rattle.isl_elim.proofs.dependents.without.Given as goal

abbrev pub invariant-loop-i : goal.invariant-loop-i
invariant-loop-i l = l.left.items ≡ without l.cols (take l.i l.coefs)
