use Rattle.std.proofs.Common.{refl, subst}
use Rattle.isl_script.specs.Script.{IsBlank}
use Rattle.isl_session.specs.View.{View}
use Rattle.isl_session.proofs.FedLemmas.{if_none}
use Rattle.isl_session.proofs.session.Session.finish.Goals as goal

pub returns-then-blank-clause-finished : goal.returns-then-blank-clause-finished
returns-then-blank-clause-finished c =
    let rest = c.self.inside.rest.items in
    let blank = (c.if-blank.ensures rest c.self.invariant.place).0 refl in
    if_none c.args.self.now.fault (subst (λ (v : View). IsBlank v.rest) c.self.view_is blank, refl)

pub returns-clause-finished : goal.returns-clause-finished
returns-clause-finished c =
    let rest = c.self.inside.rest.items in
    let not_blank : ¬ IsBlank rest = λ blank. let is = (c.if-blank.ensures rest c.self.invariant.place).1 blank in cc in
    if_none c.args.self.now.fault (
      subst (λ (v : View). ¬ IsBlank v.rest) c.self.view_is not_blank,
      c.refuse.ensures.fault,
      c.refuse.ensures.kept,
    )
