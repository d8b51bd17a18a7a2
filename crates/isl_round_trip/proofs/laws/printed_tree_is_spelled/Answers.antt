use Rattle.isl_round_trip.proofs.RoundTripLaws.{tree_spelled}
use Rattle.isl_round_trip.proofs.laws.printed_tree_is_spelled.Goals as goal

pub returns : goal.returns
returns c = tree_spelled
