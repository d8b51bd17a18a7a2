use Rattle.std.proofs.Common.{rules}
use Rattle.std.specs.List.{list_any}
use Rattle.isl_meter.specs.Gauge.{limit_of}
use Rattle.isl_kinds.specs.Parts.{parts_of}
use Rattle.isl_values.specs.Ends.{Ends}
use Rattle.isl_values.specs.Made.{uses_units}
use Rattle.isl_eval.proofs.TestLaws.{memory_unworked}
use Rattle.isl_eval.proofs.ShownLaws.{value_shows}
use Rattle.isl_eval.proofs.shown.value_shown.Goals as goal

pub returns : goal.returns
returns c = (
  (λ before here at. value_shows before c.args.state.now (limit_of c.args.meter.now) c.args.expr.now c.in_ok-kept.kept
      c.in_ok-of_kept.field-0 c.in_ok-kept.ensures.0 c.in_ok-of_kept.ensures here at),
  c.in_ok-kept.ensures.1,
  c.in_ok-kept.ensures.2,
)

pub returns-in_err-of_kept : goal.returns-in_err-of_kept
returns-in_err-of_kept c =
    memory_unworked c.from_residual-in_err-of_kept.result _ (list_any (uses_units c.args.state.now.assumed) (parts_of c.args.expr.now))
    (Ends c.args.state.now c.args.expr.now) c.args.meter.now c.content.new.meter (search rules) c.in_ok-kept.ensures.1
