use Rattle.isl_flat_law.proofs.PutBackLaws.{flat_says}
use Rattle.isl_flat_law.proofs.laws.named_is_put_back.Goals as goal

pub returns : goal.returns
returns c = flat_says
