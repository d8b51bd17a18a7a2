use Rattle.isl_quast.proofs.TextLaws.{one_tree}
use Rattle.isl_quast.proofs.one_tree.Goals as goal

pub returns : goal.returns
returns c = one_tree
