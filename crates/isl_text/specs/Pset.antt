-- public: how parameter sets are read.
use Rattle.std.specs.Prelude.{ℕ, List, if◌then◌else◌}
use Rattle.isl_token.specs.declared.token.Kind.TheVariants as k
use Rattle.isl_token.specs.Reading.{Parser, ◌>>=◌, ◌>>◌, pure, none, expect, separated}
use Rattle.isl_tree.specs.declared.tree.Formula.{Formula}
use Rattle.isl_tree.specs.declared.tree.PieceTree.{PieceTree}
use Rattle.isl_tree.specs.declared.tree.Literal.{Literal}
use Rattle.isl_formula.specs.Formula.{formula}
use Rattle.isl_text.specs.Formed.{is_formed}
use Rattle.isl_text.specs.Piece.{body, make_literal, parameters}
use Rattle.isl_text.specs.PsetGrammar.{condition_of}

module _ (formula : Parser Formula) where
  unfoldable pub condition : Parser PieceTree
  condition = do
    expect k.Colon
    held ← body formula
    pure (condition_of held)

  abbrev pub conditions : Parser (List PieceTree)
  conditions = separated k.Semicolon condition

  unfoldable pub braces : Parser (List PieceTree)
  braces = do
    expect k.OpenBrace
    found ← conditions
    expect k.CloseBrace
    pure found

  unfoldable pub outline : Parser Literal
  outline = do
    params ← parameters
    found ← braces
    pure (make_literal params found)

unfoldable pub pset : ℕ → Parser Literal
pset n = do
  found ← outline (formula n)
  if is_formed found then pure found else none
