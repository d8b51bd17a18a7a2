use Rattle.isl_eval.proofs.CauseLaws.{one}
use Rattle.isl_eval.proofs.spelled.one_statement.Goals as goal

pub returns : goal.returns
returns c = one
