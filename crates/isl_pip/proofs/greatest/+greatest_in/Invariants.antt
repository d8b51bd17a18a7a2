use Rattle.isl_pip.proofs.greatest.+greatest_in.Given as goal

abbrev pub decreases-greatest_in : goal.decreases-greatest_in
decreases-greatest_in l = l.at
