use Rattle.isl_round_trip.proofs.RoundTripLaws.{reads_back}
use Rattle.isl_round_trip.proofs.laws.round_trip.Goals as goal

pub returns : goal.returns
returns c = reads_back
