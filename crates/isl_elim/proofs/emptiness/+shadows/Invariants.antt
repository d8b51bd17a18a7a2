use Rattle.isl_elim.proofs.emptiness.+shadows.Given as goal

abbrev pub decreases-shadows_hold_nowhere : goal.decreases-shadows_hold_nowhere
decreases-shadows_hold_nowhere l = l.columns
