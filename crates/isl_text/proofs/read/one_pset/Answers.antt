use Rattle.std.proofs.Common.{refl}
use Rattle.isl_token.proofs.Again.{always}
use Rattle.isl_token.proofs.Whole.{spells_one}
use Rattle.isl_text.specs.Pset.{pset}
use Rattle.isl_text.specs.PsetGrammar.{pset_grammar}
use Rattle.isl_text.proofs.PsetLaws.{pset_taken, pset_again}
use Rattle.isl_text.proofs.read.one_pset.Goals as goal

pub returns : goal.returns
returns c = spells_one pset pset_grammar always pset_taken pset_again refl
