use Rattle.isl_quast.specs.Size.{quast_size}
use Rattle.isl_quast.proofs.value.+value_at.Given as goal

abbrev pub decreases-value_at : goal.decreases-value_at
decreases-value_at l = quast_size l.tree.now
