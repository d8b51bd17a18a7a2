use Rattle.std.proofs.Common.{◌∷◌, [], sym, ap, ◌∙◌, subst, map, IfOk}
use Rattle.std.proofs.lemmas.Bool.{false≢true}
use Rattle.std.proofs.lemmas.Result.{IfOk-weaker}
use Rattle.isl_piece.specs.declared.row.Row.{Row}
use Rattle.isl_gist.specs.declared.pass.Pass.{Pass}
use Rattle.isl_gist.specs.declared.pass.Pass.TheVariants.{Inequalities}
use Rattle.isl_gist.specs.Thinned.{IsAmong, IsDone, IsPart, IsRest}
use Rattle.isl_gist.proofs.PartLaws.{rest_part, whole_part}
use Rattle.isl_gist.proofs.needed.part.Goals as goal

pub returns-in_ok-copy-in-Inequalities-2-clause-exact : goal.returns-in_ok-copy-in-Inequalities-2-clause-exact
returns-in_ok-copy-in-Inequalities-2-clause-exact c =
    let P = IsAmong c.args.others.now.columns (map (λ o. o.now) c.args.contexts.now) in
    let others = c.args.others.now.rows in
    let r = c.args.row.now in
    let same = c.in_ok-copy-in-Inequalities-2.ensures in
    subst (λ (pass : Pass). IfOk c.needed_row.result (IsPart pass P others r)) (sym c.in-Inequalities.is)
    (IfOk-weaker c.needed_row.result (IsRest P others c.in_ok-copy-in-Inequalities-2.field-0) (IsPart Inequalities P others r)
    (λ left rest. rest_part P others r left (λ e. false≢true (c.if-is_equation.ensures.1 e))
    (subst (λ (s : Row). IsRest P others s left) same rest))
    c.needed_row.ensures.exact)

pub returns-in_ok-only-in-Equations-clause-exact : goal.returns-in_ok-only-in-Equations-clause-exact
returns-in_ok-only-in-Equations-clause-exact c =
    let P = IsAmong c.args.others.now.columns (map (λ o. o.now) c.args.contexts.now) in
    let others = c.args.others.now.rows in
    let r = c.args.row.now in
    whole_part P others c.args.pass r c.in_ok-only-in-Equations.field-0
    (c.in_ok-only-in-Equations.ensures ∙ ap (λ (s : Row). s ∷ []) c.in_ok-copy-in-Equations.ensures)
    (λ w. c.requires.needed (subst (λ (pass : Pass). IsDone pass r) (sym c.in-Equations.is)
    (λ e. false≢true (c.if-is_equation-2.ensures.1 e))))
