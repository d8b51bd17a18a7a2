-- inner: pieces, and literals of which no rule on names is asked yet: how they are read.
use Rattle.std.specs.Prelude.{Bool, true, false, List, [], Option, Some, None, if◌then◌else◌}
use Rattle.isl_token.specs.declared.token.Kind.{Kind}
use Rattle.isl_token.specs.declared.token.Kind.TheVariants as k
use Rattle.isl_token.specs.Token.{Text}
use Rattle.isl_token.specs.Reading.{Parser, ◌>>=◌, ◌>>◌, pure, head_kind, sees, skip, expect, name, separated}
use Rattle.isl_tree.specs.declared.tree.Formula.{Formula}
use Rattle.isl_tree.specs.declared.tree.Tuple.{Tuple}
use Rattle.isl_tree.specs.declared.tree.PieceTree.{PieceTree}
use Rattle.isl_tree.specs.declared.tree.Literal.{Literal}

abbrev pub make_piece : Tuple → Option Tuple → Option Formula → PieceTree
make_piece first second body = record { first = first; second = second; body = body }

abbrev pub make_literal : List Text → List PieceTree → Literal
make_literal params pieces = record { params = params; pieces = pieces }

-- ---- parameters

abbrev pub name_row : Parser (List Text)
name_row = separated k.Comma name

abbrev pub names : Parser (List Text)
names = λ ts. if sees k.CloseSquare ts then Some ([], ts) else name_row ts

-- names, `]` and `->`, after the bracket
unfoldable pub declared : Parser (List Text)
declared = do
  found ← names
  expect k.CloseSquare
  expect k.Arrow
  pure found

abbrev pub parameters : Parser (List Text)
parameters = λ ts. if sees k.OpenSquare ts then (skip >> declared) ts else Some ([], ts)

-- ---- pieces

-- what follows a piece
abbrev pub ends_piece : Kind → Bool
ends_piece k.Semicolon = true
ends_piece k.CloseBrace = true
ends_piece _ = false

-- The parameters read a tuple and a formula.
module _ (tuple : Parser Tuple) where
  unfoldable pub next_tuple : Parser Tuple
  next_tuple = skip >> tuple

  abbrev pub image : Parser (Option Tuple)
  image = λ ts. if sees k.Arrow ts then (next_tuple >>= λ t. pure (Some t)) ts else Some (None, ts)

module _ (formula : Parser Formula) where
  -- after `:`
  abbrev pub body : Parser (Option Formula)
  body = λ ts. if ends_piece (head_kind ts) then Some (None, ts) else (formula >>= λ f. pure (Some f)) ts

  abbrev pub condition : Parser (Option Formula)
  condition = λ ts. if sees k.Colon ts then (skip >> body) ts else Some (None, ts)

module _ (tuple : Parser Tuple) (formula : Parser Formula) where
  unfoldable pub piece : Parser PieceTree
  piece = do
    first ← tuple
    second ← image tuple
    held ← condition formula
    pure (make_piece first second held)

  abbrev pub piece_row : Parser (List PieceTree)
  piece_row = separated k.Semicolon piece

  abbrev pub pieces : Parser (List PieceTree)
  pieces = λ ts. if sees k.CloseBrace ts then Some ([], ts) else piece_row ts

  unfoldable pub braces : Parser (List PieceTree)
  braces = do
    expect k.OpenBrace
    found ← pieces
    expect k.CloseBrace
    pure found

  unfoldable pub outline : Parser Literal
  outline = do
    params ← parameters
    found ← braces
    pure (make_literal params found)
