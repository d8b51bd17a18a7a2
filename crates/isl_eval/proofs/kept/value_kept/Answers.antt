use Rattle.isl_meter.specs.Gauge.{limit_of}
use Rattle.isl_eval.proofs.ShownLaws.{kept_plain, value_keeps}
use Rattle.isl_eval.proofs.kept.value_kept.Goals as goal

pub new-requires : goal.new-requires
new-requires c = kept_plain c.args.state.now c.args.meter.now c.args.expr.now c.in-Ok.value.value c.in-Ok.ensures.0

pub returns-in-Ok : goal.returns-in-Ok
returns-in-Ok c = (
  value_keeps c.args.state.now (limit_of c.args.meter.now) c.args.expr.now c.args.kind c.in-Ok.value.value c.new.result c.requires.kind
      c.requires.other c.in-Ok.ensures.0 c.new.ensures,
  c.in-Ok.ensures.1,
  c.in-Ok.ensures.2,
)
