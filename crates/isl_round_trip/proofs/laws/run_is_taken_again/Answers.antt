use Rattle.isl_round_trip.proofs.RunLaws.{run_taken_again, run_stays_writable}
use Rattle.isl_round_trip.proofs.laws.run_is_taken_again.Goals as goal

pub returns-clause-taken : goal.returns-clause-taken
returns-clause-taken c = run_taken_again

pub returns-clause-kept : goal.returns-clause-kept
returns-clause-kept c = run_stays_writable
