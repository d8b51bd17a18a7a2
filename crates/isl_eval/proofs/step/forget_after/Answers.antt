use Rattle.std.proofs.Common.{rules}
use Rattle.isl_eval.proofs.StepLaws.{forgotten_alone}
use Rattle.isl_eval.proofs.step.forget_after.Goals as goal

pub returns-else-statements-ne1 : goal.returns-else-statements-ne1
returns-else-statements-ne1 c = forgotten_alone c.args.state.now c.args.statements.now c.requires (search rules)
