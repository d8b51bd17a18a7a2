-- inner: the two forms of what is read.
use Rattle.std.specs.Prelude.{ℕ}
use Rattle.isl_token.specs.Reading.{Parser}
use Rattle.isl_token.specs.Spelling.{Grammar}
use Rattle.isl_tree.specs.declared.tree.Literal.{Literal}
use Rattle.isl_text.specs.Literal.{literal, literal_grammar}
use Rattle.isl_text.specs.Pset.{pset}
use Rattle.isl_text.specs.PsetGrammar.{pset_grammar}
use Rattle.isl_text.specs.declared.read.Form.{Form}
use Rattle.isl_text.specs.declared.read.Form.TheVariants as form

abbrev pub parser_of : Form → ℕ → Parser Literal
parser_of form.Literal = literal
parser_of form.Pset = pset

abbrev pub grammar_of : Form → ℕ → Grammar Literal
grammar_of form.Literal = literal_grammar
grammar_of form.Pset = pset_grammar
