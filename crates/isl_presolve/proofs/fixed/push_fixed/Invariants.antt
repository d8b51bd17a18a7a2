use Rattle.std.proofs.Common.{◌≡◌, length}
use Rattle.isl_presolve.specs.Fixed.{AreFixed}
use Rattle.isl_presolve.proofs.fixed.push_fixed.Given as goal

abbrev pub invariant-loop-col : goal.invariant-loop-col
invariant-loop-col l = AreFixed l.fn.meter (length l.ranges) l.rows l.found × (l.meter ≡ l.fn.meter)
