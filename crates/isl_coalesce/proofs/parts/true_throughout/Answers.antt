use Rattle.std.proofs.Common.{subst, sym}
use Rattle.std.specs.Prelude.{IfOk, IsTrue, ◌↔◌}
use Rattle.isl_assumed.specs.declared.assumed.Assumed.{Assumed}
use Rattle.isl_coalesce.specs.Found.{IsKnown, IsTrueThroughout}
use Rattle.isl_coalesce.proofs.parts.true_throughout.Goals as goal

pub returns-in-Nothing-clause-exact : goal.returns-in-Nothing-clause-exact
returns-in-Nothing-clause-exact c =
    subst (λ (k : Assumed). IfOk c.true_in.result (λ all. IsTrue all ↔ IsTrueThroughout (IsKnown k) c.args.system.now c.args.row.now))
    (sym c.in-Nothing.is) c.true_in.ensures.exact

pub returns-in-Where-clause-exact : goal.returns-in-Where-clause-exact
returns-in-Where-clause-exact c =
    subst (λ (k : Assumed).
    IfOk c.true_in_region.result (λ all. IsTrue all ↔ IsTrueThroughout (IsKnown k) c.args.system.now c.args.row.now)) (sym c.in-Where.is)
    c.true_in_region.ensures.exact
