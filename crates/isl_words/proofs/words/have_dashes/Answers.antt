use Rattle.std.proofs.Common.{◌∙◌}
use Rattle.isl_words.proofs.WordsLemmas.{dashes}
use Rattle.isl_words.proofs.words.have_dashes.Goals as goal

pub returns : goal.returns
returns c = c.is_any_dashes.ensures ∙ dashes c.args.words.now
