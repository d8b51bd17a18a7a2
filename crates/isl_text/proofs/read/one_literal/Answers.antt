use Rattle.std.proofs.Common.{refl}
use Rattle.isl_token.proofs.Again.{always}
use Rattle.isl_token.proofs.Whole.{spells_one}
use Rattle.isl_text.specs.Literal.{literal, literal_grammar}
use Rattle.isl_text.proofs.LiteralLaws.{literal_taken, literal_again}
use Rattle.isl_text.proofs.read.one_literal.Goals as goal

pub returns : goal.returns
returns c = spells_one literal literal_grammar always literal_taken literal_again refl
