use Rattle.isl_round_trip.proofs.TakenLaws.{taken_again, stays_writable, starts_writable}
use Rattle.isl_round_trip.proofs.laws.shown_is_taken_again.Goals as goal

pub returns-clause-taken : goal.returns-clause-taken
returns-clause-taken c = taken_again

pub returns-clause-kept : goal.returns-clause-kept
returns-clause-kept c = stays_writable

pub returns-clause-start : goal.returns-clause-start
returns-clause-start c = starts_writable
