use Rattle.isl_words.proofs.WordsLemmas.{taken_once, taken_choice}
use Rattle.isl_words.proofs.words.options_are_one.Goals as goal

pub returns-clause-once : goal.returns-clause-once
returns-clause-once c = taken_once

pub returns-clause-choice : goal.returns-clause-choice
returns-clause-choice c = taken_choice
