use Rattle.std.proofs.Common.{◌∙◌, ap, refl, rules}
use Rattle.isl_meter.specs.Gauge.{limit_of}
use Rattle.isl_values.specs.Ends.{Ends}
use Rattle.isl_values.specs.State.{scope_of}
use Rattle.isl_eval.specs.Evaluated.{works}
use Rattle.isl_eval.proofs.TestLaws.{memory_unworked}
use Rattle.isl_state.proofs.ForgetLaws.{forgotten_dollar, settled_bound}
use Rattle.isl_kinds.specs.Typed.{is_dollar}
use Rattle.isl_state.proofs.StateLaws.{fits_bound}
use Rattle.isl_eval.proofs.StepLaws.{kept_live, kept_numbers}
use Rattle.isl_eval.proofs.ShownLaws.{bind_kind, bind_makeable, bind_paid, bind_type, bound_kept, kept_type, moment_of}
use Rattle.isl_eval.proofs.ShownLaws.{no_options}
use Rattle.isl_eval.proofs.simple.bound.Goals as goal

pub content-requires-clause-makeable : goal.content-requires-clause-makeable
content-requires-clause-makeable c =
    bind_makeable (scope_of c.args.state.now) c.args.stmt.now c.args.name.now c.args.expr.now c.requires.stmt c.requires.evaluable

pub content-requires-clause-kind : goal.content-requires-clause-kind
content-requires-clause-kind c =
    bind_kind (scope_of c.args.state.now) c.args.stmt.now c.args.name.now c.args.expr.now c.requires.stmt c.args.typed c.kind.result
    c.requires.typed c.kind.ensures

pub bind-requires : goal.bind-requires
bind-requires c =
    kept_type c.args.state.now c.args.meter.now c.args.expr.now c.in_ok-kept.kept c.args.typed
    (bind_type (scope_of c.args.state.now) c.args.stmt.now c.args.name.now c.args.expr.now c.requires.stmt c.args.typed c.requires.typed) c.in_ok-kept.ensures.0

pub returns-clause-made : goal.returns-clause-made
returns-clause-made c = (
  (λ before here at. bound_kept before c.args.state.now c.bind.new.self (limit_of c.args.meter.now) c.args.name.now c.in_ok-name.name
      c.args.expr.now c.in_ok-kept.kept here at c.in_ok-kept.ensures.0 c.in_ok-name.ensures c.in_ok-bind.ensures.ok),
  bind_paid c.args.state.now.assumed c.args.stmt.now c.args.name.now c.args.expr.now c.args.meter.now c.content.new.meter c.requires.stmt
      c.in_ok-kept.ensures.1,
  c.in_ok-kept.ensures.2,
)

pub returns-in_err-bind-clause-made : goal.returns-in_err-bind-clause-made
returns-in_err-bind-clause-made c =
    memory_unworked c.from_residual-in_err-bind.result _ (works c.args.state.now.assumed c.args.stmt.now)
    (Ends c.args.state.now c.args.expr.now) c.args.meter.now c.content.new.meter (search rules)
    (bind_paid c.args.state.now.assumed c.args.stmt.now c.args.name.now c.args.expr.now c.args.meter.now c.content.new.meter
    c.requires.stmt c.in_ok-kept.ensures.1)

pub returns-clause-dollar : goal.returns-clause-dollar
returns-clause-dollar c =
    λ dollar. forgotten_dollar c.args.state.now c.bind.new.self c.in_ok-name.name c.in_ok-kept.kept (ap is_dollar c.in_ok-name.ensures ∙ dollar)
    c.in_ok-bind.ensures.list c.in_ok-bind.ensures.ok.assumed

pub returns-clause-settled : goal.returns-clause-settled
returns-clause-settled c =
    λ plain settled. settled_bound c.args.state.now c.bind.new.self c.in_ok-name.name c.in_ok-kept.kept (ap is_dollar c.in_ok-name.ensures
    ∙ plain)
    c.in_ok-bind.ensures.list settled

pub returns-clause-fits : goal.returns-clause-fits
returns-clause-fits c =
    let before = moment_of c.args.state.now c.args.meter.now no_options in
    let keeps = c.in_ok-kept.ensures.0 before refl refl in
    fits_bound (limit_of c.args.meter.now) c.args.state.now c.in_ok-name.name c.in_ok-kept.kept c.bind.new.self c.requires.fits
    c.in_ok-bind.ensures.ok (kept_numbers before c.args.expr.now c.in_ok-kept.kept keeps)
    (kept_live before c.args.expr.now c.in_ok-kept.kept keeps)
