-- public: literals: how they are read, and the grammar with the rules on names.
use Rattle.std.specs.Prelude.{◌≡◌, ℕ, true, if◌then◌else◌}
use Rattle.isl_token.specs.Reading.{Parser, ◌>>=◌, pure, none}
use Rattle.isl_token.specs.Spelling.{Grammar}
use Rattle.isl_tree.specs.declared.tree.Literal.{Literal}
use Rattle.isl_formula.specs.Formula.{formula}
use Rattle.isl_text.specs.Tuple.{tuple}
use Rattle.isl_text.specs.Piece.{outline}
use Rattle.isl_text.specs.LiteralGrammar.{outline_of}
use Rattle.isl_text.specs.Formed.{is_formed}

unfoldable pub literal : ℕ → Parser Literal
literal n = do
  found ← outline (tuple n) (formula n)
  if is_formed found then pure found else none

-- A text spells a literal by the grammar, where the rules on names are kept.
abbrev pub literal_grammar : ℕ → Grammar Literal
literal_grammar n = λ found ts. outline_of n found ts × (is_formed found ≡ true)
