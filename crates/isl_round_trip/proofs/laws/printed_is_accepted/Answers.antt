use Rattle.isl_round_trip.proofs.AcceptedLaws.{printed_accepted}
use Rattle.isl_round_trip.proofs.laws.printed_is_accepted.Goals as goal

pub returns : goal.returns
returns c = printed_accepted
