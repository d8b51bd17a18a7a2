use Rattle.isl_search.proofs.search.Search.+search.Given as goal

abbrev pub decreases-refute : goal.decreases-refute
decreases-refute l = l.reach.fuel

abbrev pub decreases-fresh : goal.decreases-fresh
decreases-fresh l = l.reach.fuel

abbrev pub decreases-bounds : goal.decreases-bounds
decreases-bounds l = l.reach.fuel

abbrev pub decreases-residues : goal.decreases-residues
decreases-residues l = l.reach.fuel

abbrev pub decreases-splinters : goal.decreases-splinters
decreases-splinters l = l.reach.fuel

abbrev pub decreases-told_apart : goal.decreases-told_apart
decreases-told_apart l = l.reach.fuel

abbrev pub decreases-from_value : goal.decreases-from_value
decreases-from_value l = l.reach.fuel
