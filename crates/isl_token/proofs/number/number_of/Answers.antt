use Rattle.isl_token.proofs.Numbers.{number_is}
use Rattle.isl_token.proofs.number.number_of.Goals as goal

pub returns : goal.returns
returns c = number_is c.args.digits.now c.capped.result c.min.result c.capped.ensures c.min.ensures
