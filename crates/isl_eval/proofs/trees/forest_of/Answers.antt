use Rattle.isl_values.proofs.ValueLaws.{paid_works}
use Rattle.isl_eval.proofs.TreesLaws.{trees_go, trees_refused}
use Rattle.isl_eval.proofs.trees.forest_of.Goals as goal

pub returns-in-Ok : goal.returns-in-Ok
returns-in-Ok c = (
  c.in-Ok.ensures.forest,
  paid_works c.args.meter.now c.pip.new.meter c.in-Ok.ensures.there.1,
  trees_go c.args.value.now c.in-Ok.ensures.there.0,
)

pub returns-in-Err : goal.returns-in-Err
returns-in-Err c =
    trees_refused c.args.value.now c.args.meter.now c.pip.new.meter c.in-Err.fault c.refusal_of_trees.result c.refusal_of_trees.ensures
    c.in-Err.ensures.there
