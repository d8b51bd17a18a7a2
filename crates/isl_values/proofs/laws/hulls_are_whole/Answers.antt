use Rattle.isl_values.proofs.HullLaws.{hull_everywhere}
use Rattle.isl_values.proofs.laws.hulls_are_whole.Goals as goal

pub returns : goal.returns
returns c = hull_everywhere
