use Rattle.isl_round_trip.proofs.TakenLaws.{text_shows}
use Rattle.isl_round_trip.proofs.laws.printed_shows_what_is_live.Goals as goal

pub returns : goal.returns
returns c = λ before value writable last answer answers. text_shows value writable before last answer answers
