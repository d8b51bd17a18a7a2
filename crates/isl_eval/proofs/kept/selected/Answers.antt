use Rattle.isl_meter.specs.Gauge.{limit_of}
use Rattle.isl_values.specs.Ends.{Ends}
use Rattle.isl_values.specs.State.{scope_of}
use Rattle.isl_state.specs.declared.list.ListPart.TheVariants.{First}
use Rattle.isl_eval.proofs.ShownLaws.{outcome_of, selected_kept, selected_sound}
use Rattle.isl_eval.proofs.kept.selected.Goals as goal

pub flat_value_of-requires-clause-sound : goal.flat_value_of-requires-clause-sound
flat_value_of-requires-clause-sound c = selected_sound (scope_of c.args.state.now) c.args.expr.now c.requires.selects c.requires.makeable

pub returns : goal.returns
returns c =
    outcome_of c.flat_value_of.result _ (Ends c.args.state.now c.args.expr.now) _ _ c.args.meter.now c.flat_value_of.new.meter
    (λ value h. selected_kept c.args.state.now (limit_of c.args.meter.now) First c.args.expr.now value.value c.requires.selects h)
    c.flat_value_of.ensures.made c.flat_value_of.ensures.goes_on
