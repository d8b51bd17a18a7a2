use Rattle.std.proofs.Common.{◌∙◌, sym}
use Rattle.isl_meter.specs.Gauge.{limit_of}
use Rattle.isl_values.specs.State.{scope_of}
use Rattle.isl_eval.proofs.ShownLaws.{list_keeps, list_selects, selected_sound}
use Rattle.isl_eval.proofs.kept.list_kept.Goals as goal

pub flat_list_of-requires-clause-sound : goal.flat_list_of-requires-clause-sound
flat_list_of-requires-clause-sound c =
    selected_sound (scope_of c.args.state.now) c.args.expr.now (list_selects (scope_of c.args.state.now) c.args.expr.now c.requires.kind)
    c.requires.makeable

pub list-requires-clause-first : goal.list-requires-clause-first
list-requires-clause-first c = c.in-Ok.ensures.made.0.0.definitions tt

pub list-requires-clause-second : goal.list-requires-clause-second
list-requires-clause-second c = c.in-Ok.ensures.made.0.1.definitions tt

pub list-requires-clause-params : goal.list-requires-clause-params
list-requires-clause-params c = c.in-Ok.ensures.made.0.1.params ∙ sym c.in-Ok.ensures.made.0.0.params

pub returns-in-Ok : goal.returns-in-Ok
returns-in-Ok c = (
  list_keeps c.args.state.now (limit_of c.args.meter.now) c.args.expr.now c.in-Ok.values c.list.result c.requires.kind c.in-Ok.ensures.made.0
      c.list.ensures,
  c.in-Ok.ensures.made.1,
  c.in-Ok.ensures.goes_on,
)
