use Rattle.isl_values.proofs.ValueLaws.{paid_works}
use Rattle.isl_eval.proofs.CodedLaws.{generation_refused}
use Rattle.isl_eval.proofs.VisitLaws.{schedule_goes}
use Rattle.isl_eval.proofs.loops.generated.Goals as goal

pub returns-in-Ok : goal.returns-in-Ok
returns-in-Ok c = (
  (c.in-Ok.ensures.tree.1, c.in-Ok.ensures.program, c.in-Ok.ensures.tree.0),
  paid_works c.args.meter.now c.codegen.new.meter c.in-Ok.ensures.tree.2,
  schedule_goes c.args.value.now c.in-Ok.ensures.schedule,
)

pub returns-in-Err : goal.returns-in-Err
returns-in-Err c =
    generation_refused c.args.value.now c.requires.kept c.args.meter.now c.codegen.new.meter c.in-Err.fault c.refusal_of_generation.result
    c.refusal_of_generation.ensures c.in-Err.ensures.tree
