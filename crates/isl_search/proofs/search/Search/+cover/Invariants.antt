use Rattle.isl_search.proofs.search.Search.+cover.Given as goal

abbrev pub decreases-cover : goal.decreases-cover
decreases-cover l = l.reach.fuel

abbrev pub decreases-outside : goal.decreases-outside
decreases-outside l = l.reach.fuel

abbrev pub decreases-row_fails : goal.decreases-row_fails
decreases-row_fails l = l.reach.fuel

abbrev pub decreases-behind_sides : goal.decreases-behind_sides
decreases-behind_sides l = l.reach.fuel
