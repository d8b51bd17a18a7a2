use Rattle.isl_nest.proofs.loops.+nest.Given as goal

abbrev pub decreases-nest : goal.decreases-nest
decreases-nest l = l.left
