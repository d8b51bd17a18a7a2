use Rattle.isl_round_trip.proofs.KnownLaws.{printed_tree_known}
use Rattle.isl_round_trip.proofs.RoundTripLaws.{tree_well_formed}
use Rattle.isl_round_trip.proofs.laws.printed_tree_is_known.Goals as goal

pub returns-clause-known : goal.returns-clause-known
returns-clause-known c = printed_tree_known

pub returns-clause-well_formed : goal.returns-clause-well_formed
returns-clause-well_formed c = tree_well_formed
