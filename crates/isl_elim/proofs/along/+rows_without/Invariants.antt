use Rattle.isl_elim.proofs.along.+rows_without.Given as goal

abbrev pub decreases-rows_without : goal.decreases-rows_without
decreases-rows_without l = l.columns
