use Rattle.isl_round_trip.proofs.PlainTree.{tree_plain}
use Rattle.isl_round_trip.proofs.laws.printed_tree_is_plain.Goals as goal

pub returns : goal.returns
returns c = tree_plain
