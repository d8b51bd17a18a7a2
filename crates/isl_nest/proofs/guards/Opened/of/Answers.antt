use Rattle.isl_nest.proofs.UnderLaws.{opened_if}
use Rattle.isl_nest.proofs.guards.Opened.of.Goals as goal

pub returns-in-If : goal.returns-in-If
returns-in-If c = opened_if c.args.tree c.in-If.rows c.in-If.body c.into_inner.result c.in-If.is c.into_inner.ensures
