use Rattle.isl_schedule.proofs.GoodLaws.{good_tree}
use Rattle.isl_schedule.proofs.good.listed_is_good.Goals as goal

pub returns : goal.returns
returns c = good_tree
