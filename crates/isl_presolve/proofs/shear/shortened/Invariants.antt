use Rattle.std.proofs.Common.{◌≡◌}
use Rattle.isl_presolve.specs.Shear.{AreSheared}
use Rattle.isl_presolve.proofs.shear.shortened.Given as goal

abbrev pub invariant-loop : goal.invariant-loop
invariant-loop l = AreSheared l.fn.meter l.fn.columns l.fn.rows l.rows × (l.meter ≡ l.fn.meter)
