use Rattle.isl_quast.specs.Size.{quast_size}
use Rattle.isl_pip.proofs.without.+without.Given as goal

abbrev pub decreases-without : goal.decreases-without
decreases-without l = quast_size l.tree
