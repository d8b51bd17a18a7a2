use Rattle.isl_redundant.specs.Redundant.{AreSome}
use Rattle.isl_presolve.specs.Shear.{IsReduction}
use Rattle.isl_presolve.proofs.one_sided.without_one_sided.Given as goal

abbrev pub invariant-loop : goal.invariant-loop
invariant-loop l = IsReduction l.fn._meter l.columns l.fn.rows l.rows × AreSome l.rows l.fn.rows
