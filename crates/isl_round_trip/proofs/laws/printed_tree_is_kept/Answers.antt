use Rattle.isl_round_trip.proofs.RoundTripLaws.{tree_kept}
use Rattle.isl_round_trip.proofs.WrittenLaws.{value-printed_tree}
use Rattle.isl_round_trip.proofs.laws.printed_tree_is_kept.Goals as goal

pub returns-clause-written : goal.returns-clause-written
returns-clause-written c = value-printed_tree

pub returns-clause-normal : goal.returns-clause-normal
returns-clause-normal c = tree_kept
