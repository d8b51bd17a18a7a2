use Rattle.std.proofs.Common.{◌∙◌, Ok, ap, refl, sym, subst}
use Rattle.isl_stmt.specs.Names.{binds_dollar}
use Rattle.isl_eval.specs.Machine.{Step}
use Rattle.isl_values.specs.State.{scope_of}
use Rattle.isl_eval.specs.Ended.{IsAssumedWhereNeeded}
use Rattle.isl_eval.proofs.ShownLaws.{bind_step, empty_step, moment_of, narrow_step, set_formulas, set_known, set_well_formed}
use Rattle.isl_eval.proofs.ShownLaws.{show_answered, show_is}
use Rattle.isl_eval.proofs.simple.eval_typed.Goals as goal

pub returns-in-Empty-clause-ok : goal.returns-in-Empty-clause-ok
returns-in-Empty-clause-ok c =
    let before = moment_of c.args.state.now c.args.meter.now c.args.options.now in
    subst (Step before c.args.stmt.now before) (sym c.nothing.ensures) (empty_step before c.args.stmt.now c.in-Empty.is)

pub returns-in_ok-bound-in-Bind-clause-ok : goal.returns-in_ok-bound-in-Bind-clause-ok
returns-in_ok-bound-in-Bind-clause-ok c =
    let before = moment_of c.args.state.now c.args.meter.now c.args.options.now in
    let after = moment_of c.bound.new.state c.bound.new.meter c.args.options.now in
    subst (Step before c.args.stmt.now after) (sym c.nothing-in-Bind.ensures)
    (bind_step before c.args.stmt.now after _ _ c.in-Bind.is refl
    c.in_ok-bound-in-Bind.ensures.made.1.charged
    c.in_ok-bound-in-Bind.ensures.made.2 (c.in_ok-bound-in-Bind.ensures.made.0 before refl refl))

pub returns-in-Show-clause-ok : goal.returns-in-Show-clause-ok
returns-in-Show-clause-ok c =
    show_answered (moment_of c.args.state.now c.args.meter.now c.args.options.now) c.args.stmt.now c.shown.new.meter _ _ c.shown.result
    c.in-Show.is c.shown.ensures

pub returns-in_ok-bound-in-Bind-clause-settled : goal.returns-in_ok-bound-in-Bind-clause-settled
returns-in_ok-bound-in-Bind-clause-settled c =
    λ plain settled. c.in_ok-bound-in-Bind.ensures.settled (sym (ap binds_dollar c.in-Bind.is) ∙ plain) settled

pub returns-in_ok-narrowed-in-Assume-clause-ok : goal.returns-in_ok-narrowed-in-Assume-clause-ok
returns-in_ok-narrowed-in-Assume-clause-ok c =
    let before = moment_of c.args.state.now c.args.meter.now c.args.options.now in
    let after = moment_of c.narrowed.new.state c.narrowed.new.meter c.args.options.now in
    subst (Step before c.args.stmt.now after) (sym c.nothing-in-Assume.ensures)
    (narrow_step before c.args.stmt.now after _ c.in-Assume.is refl c.in_ok-narrowed-in-Assume.ensures.made.1.charged
    c.in_ok-narrowed-in-Assume.ensures.made.2 c.in_ok-narrowed-in-Assume.ensures.made.0)

pub narrowed-requires-clause-known : goal.narrowed-requires-clause-known
narrowed-requires-clause-known c =
    set_known (scope_of c.args.state.now) c.args.stmt.now c.in-Assume.set c.in-Assume.is c.requires.evaluable

pub narrowed-requires-clause-well_formed : goal.narrowed-requires-clause-well_formed
narrowed-requires-clause-well_formed c =
    set_well_formed (scope_of c.args.state.now) c.args.stmt.now c.in-Assume.set c.in-Assume.is c.requires.evaluable

pub narrowed-requires-clause-formulas : goal.narrowed-requires-clause-formulas
narrowed-requires-clause-formulas c =
    set_formulas (scope_of c.args.state.now) c.args.stmt.now c.in-Assume.set c.in-Assume.is c.requires.evaluable

pub shown-requires-clause-assumed : goal.shown-requires-clause-assumed
shown-requires-clause-assumed c =
    subst (IsAssumedWhereNeeded (moment_of c.args.state.now c.args.meter.now c.args.options.now)) c.in-Show.is c.requires.asked

pub shown-requires-clause-kind : goal.shown-requires-clause-kind
shown-requires-clause-kind c =
    show_is (scope_of c.args.state.now) c.args.stmt.now c.in-Show.expr c.unwrap-typed-in-Show.result c.kind.result c.in-Show.is
    (c.requires.typed ∙ ap Ok c.unwrap-typed-in-Show.ensures) c.kind.ensures
