use Rattle.isl_round_trip.proofs.WritableLaws.{lowered_writable}
use Rattle.isl_round_trip.proofs.laws.lowered_is_writable.Goals as goal

pub returns : goal.returns
returns c = lowered_writable
