use Rattle.std.proofs.Common.{◌∙◌, refl, sym}
use Rattle.isl_tree.specs.declared.statement.Stmt.TheVariants.{Show}
use Rattle.isl_values.specs.State.{scope_of}
use Rattle.isl_values.specs.Ends.{Ends}
use Rattle.isl_eval.specs.Ended.{StatementEnds}
use Rattle.isl_eval.proofs.ShownLaws.{moment_of, outcome_in, show_makeable, shown_ends, shows_value}
use Rattle.isl_eval.proofs.shown.shown.Goals as goal

pub value_shown-requires-clause-makeable : goal.value_shown-requires-clause-makeable
value_shown-requires-clause-makeable c =
    show_makeable (scope_of c.args.state.now) c.args.expr.now (sym c.is_asked.ensures ∙ c.if-is_asked.false) c.requires.evaluable

pub returns-else-is_asked : goal.returns-else-is_asked
returns-else-is_asked c =
    let before = moment_of c.args.state.now c.args.meter.now c.args.options.now in
    let unasked = sym c.is_asked.ensures ∙ c.if-is_asked.false in
    outcome_in c.value_shown.result _ _ (Ends c.args.state.now c.args.expr.now) (StatementEnds before (Show c.args.expr.now)) _ _
    c.args.meter.now c.value_shown.new.meter (λ none. none) (shown_ends before c.args.expr.now unasked)
    (λ line h. shows_value before c.args.expr.now line unasked (h before refl refl)) c.value_shown.ensures
