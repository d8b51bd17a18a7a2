use Rattle.std.proofs.Common.{◌≡◌, ◌∙◌, sym, arith, true, false}
use Rattle.std.proofs.lemmas.Grind.{common_steps}
use Rattle.isl_cert.proofs.question.is_proof.Goals as goal

pub returns-then-not-yes-clause-exact : goal.returns-then-not-yes-clause-exact
returns-then-not-yes-clause-exact c =
    let no : c.in_ok-yes.yes ≡ false = grind arith in
    sym no ∙ c.in_ok-yes.ensures.exact

pub returns-clause-exact : goal.returns-clause-exact
returns-clause-exact c =
    let yes' : c.in_ok-yes.yes ≡ true = grind arith in
    sym yes' ∙ c.in_ok-yes.ensures.exact

pub returns-clause-units : goal.returns-clause-units
returns-clause-units c =
    let yes' : c.in_ok-yes.yes ≡ true = grind arith in
    let whole = c.in_ok-yes.ensures.whole yes' in
    let units = c.in_ok-yes.ensures.units in
    λ t. grind (arith, common_steps, whole, units)
