use Rattle.std.proofs.Common.{◌∙◌, ap, sym}
use Rattle.std.specs.Option.{option_copied}
use Rattle.isl_tree.specs.declared.statement.Binary.TheVariants as b
use Rattle.isl_meter.specs.Gauge.{limit_of}
use Rattle.isl_values.specs.Ends.{Ends}
use Rattle.isl_eval.specs.Evaluation.{EndsPair}
use Rattle.isl_eval.proofs.ShownLaws.{gist_ends, gist_kept, gist_sound, gist_works, outcome_in, row_selects}
use Rattle.isl_eval.proofs.kept.row_kept.Goals as goal

pub simplified-requires-clause-left : goal.simplified-requires-clause-left
simplified-requires-clause-left c =
    (gist_sound c.args.state.now c.args.expr.now c.args.first.now c.in-Some.right.now c.args.links.now c.requires.is
    (sym c.context.ensures ∙ ap option_copied c.in-Some.is) c.requires.makeable).0

pub simplified-requires-clause-right : goal.simplified-requires-clause-right
simplified-requires-clause-right c =
    (gist_sound c.args.state.now c.args.expr.now c.args.first.now c.in-Some.right.now c.args.links.now c.requires.is
    (sym c.context.ensures ∙ ap option_copied c.in-Some.is) c.requires.makeable).1

pub returns-in-Some : goal.returns-in-Some
returns-in-Some c =
    let state = c.args.state.now in
    let expr = c.args.expr.now in
    let first = c.args.first.now in
    let right = c.in-Some.right.now in
    let only = sym c.context.ensures ∙ ap option_copied c.in-Some.is in
    outcome_in c.simplified.result _ _ (EndsPair state first b.Gist right) (Ends state expr) _ _ c.args.meter.now c.simplified.new.meter
    (λ none. gist_works state expr first right c.args.links.now c.requires.is only ∙ none)
    (gist_ends state expr first right c.args.links.now c.requires.is only)
    (λ value h. gist_kept state expr first right c.args.links.now c.requires.is only (limit_of c.args.meter.now) value.value h)
    c.simplified.ensures

pub selected-requires-clause-selects : goal.selected-requires-clause-selects
selected-requires-clause-selects c =
    row_selects c.args.expr.now c.args.first.now c.args.links.now c.requires.is (sym c.context.ensures ∙ ap option_copied c.in-None.is)
