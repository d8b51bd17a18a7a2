use Rattle.isl_elim.proofs.emptiness.+rows_nowhere.Given as goal

abbrev pub decreases-rows_nowhere : goal.decreases-rows_nowhere
decreases-rows_nowhere l = l.columns
