use Rattle.std.proofs.Common.{◌≡◌}
use Rattle.isl_presolve.specs.Fixed.{AreFixed}
use Rattle.isl_presolve.proofs.fixed.fixed_rows.Given as goal

abbrev pub invariant-loop-at : goal.invariant-loop-at
invariant-loop-at l = AreFixed l.fn.meter l.columns l.rows l.found × (l.meter ≡ l.fn.meter)
