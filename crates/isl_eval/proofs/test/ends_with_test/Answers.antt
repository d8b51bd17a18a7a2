use Rattle.isl_eval.proofs.AskedLaws.{ends_some, ends_none}
use Rattle.isl_eval.proofs.test.ends_with_test.Goals as goal

pub returns-in-Some : goal.returns-in-Some
returns-in-Some c = ends_some c.args.links.now _ c.in-Some.last.now _ c.in-Some.ensures.cases.0 c.is_test.ensures

pub returns-in-None : goal.returns-in-None
returns-in-None c = ends_none c.args.links.now c.in-None.ensures.cases
