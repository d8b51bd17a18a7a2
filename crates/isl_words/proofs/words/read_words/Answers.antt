use Rattle.std.proofs.Common.{◌∙◌, sym}
use Rattle.std.proofs.lemmas.Bool.{false≢true}
use Rattle.isl_words.proofs.words.read_words.Goals as goal

pub returns-then-have_dashes-clause-usage : goal.returns-then-have_dashes-clause-usage
returns-then-have_dashes-clause-usage c =
    λ _ options taken. false≢true (sym taken.no_dashes ∙ sym c.have_dashes.ensures ∙ c.if-have_dashes.true)
