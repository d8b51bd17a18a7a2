use Rattle.isl_round_trip.proofs.WithinTree.{tree_within}
use Rattle.isl_round_trip.proofs.laws.printed_tree_is_within.Goals as goal

pub returns : goal.returns
returns c = tree_within
