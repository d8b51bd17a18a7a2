use Rattle.isl_elim.proofs.progression.inverse.Given as goal

abbrev pub decreases-loop-rest : goal.decreases-loop-rest
decreases-loop-rest l = l.rest.1
