-- public: the grammar of literals. (isl manual, the notation of sets and relations)
use Rattle.std.specs.Prelude.{ℕ, zero, suc, List, [], Option, Some, None}
use Rattle.isl_token.specs.declared.token.Kind.TheVariants as k
use Rattle.isl_token.specs.Token.{Text}
use Rattle.isl_token.specs.Spelling.{Grammar, ◌>>=◌, ◌>>◌, ◌∪◌, pure, word, name, separated}
use Rattle.isl_tree.specs.declared.tree.Signed.{Signed}
use Rattle.isl_tree.specs.declared.tree.Formula.{Formula}
use Rattle.isl_tree.specs.declared.tree.Entry.{Entry}
use Rattle.isl_tree.specs.declared.tree.Entry.TheVariants.{Plain, Named}
use Rattle.isl_tree.specs.declared.tree.Tuple.{Tuple}
use Rattle.isl_tree.specs.declared.tree.Tuple.TheVariants.{Leaf, Pair}
use Rattle.isl_tree.specs.declared.tree.PieceTree.{PieceTree}
use Rattle.isl_tree.specs.declared.tree.Literal.{Literal}
use Rattle.isl_formula.specs.TermGrammar.{term}
use Rattle.isl_formula.specs.FormulaGrammar.{formula}
use Rattle.isl_text.specs.Piece.{make_piece, make_literal}

module _ (term : Grammar (List Signed)) where
  -- name "=" term
  abbrev pub named_entry : Grammar Entry
  named_entry = do
    new ← name
    word k.Equal
    value ← term
    pure (Named new value)

  -- term
  abbrev pub plain_entry : Grammar Entry
  plain_entry = term >>= λ value. pure (Plain value)

  abbrev pub entry : Grammar Entry
  entry = named_entry ∪ plain_entry

  -- entry {"," entry}
  abbrev pub entry_row : Grammar (List Entry)
  entry_row = separated k.Comma entry

  -- "[" [entry {"," entry}] "]"
  abbrev pub leaf : Option Text → Grammar Tuple
  leaf title = do
    word k.OpenSquare
    found ← pure [] ∪ entry_row
    word k.CloseSquare
    pure (Leaf title found)

  -- name "[" [entry {"," entry}] "]"
  abbrev pub named_leaf : Grammar Tuple
  named_leaf = name >>= λ title. leaf (Some title)

-- The parameters are a term, and a tuple nested one level less.
module _ (term : Grammar (List Signed)) (nested : Grammar Tuple) where
  -- "[" tuple "->" tuple "]"
  abbrev pub pair : Grammar Tuple
  pair = do
    word k.OpenSquare
    first ← nested
    word k.Arrow
    second ← nested
    word k.CloseSquare
    pure (Pair first second)

  -- [name] "[" [entry {"," entry}] "]" | "[" tuple "->" tuple "]"
  abbrev pub tuple_level : Grammar Tuple
  tuple_level = named_leaf term ∪ leaf term None ∪ pair

-- nested less deep than the number
unfoldable pub tuple : ℕ → Grammar Tuple
tuple zero = λ _ _. ⊥
tuple (suc n) = tuple_level (term (suc n)) (tuple n)

-- name {"," name}
abbrev pub name_row : Grammar (List Text)
name_row = separated k.Comma name

-- "[" [name {"," name}] "]" "->"
abbrev pub declared : Grammar (List Text)
declared = do
  word k.OpenSquare
  found ← pure [] ∪ name_row
  word k.CloseSquare
  word k.Arrow
  pure found

module _ (tuple : Grammar Tuple) (formula : Grammar Formula) where
  -- ["->" tuple]
  abbrev pub image : Grammar (Option Tuple)
  image = ((word k.Arrow >> tuple) >>= λ t. pure (Some t)) ∪ pure None

  -- [":" [formula]]
  abbrev pub condition : Grammar (Option Formula)
  condition = (word k.Colon >> (pure None ∪ (formula >>= λ f. pure (Some f)))) ∪ pure None

  -- tuple ["->" tuple] [":" [formula]]
  abbrev pub piece : Grammar PieceTree
  piece = do
    first ← tuple
    second ← image
    held ← condition
    pure (make_piece first second held)

  -- piece {";" piece}
  abbrev pub piece_row : Grammar (List PieceTree)
  piece_row = separated k.Semicolon piece

  -- "{" [piece {";" piece}] "}"
  abbrev pub braces : Grammar (List PieceTree)
  braces = do
    word k.OpenBrace
    found ← pure [] ∪ piece_row
    word k.CloseBrace
    pure found

  -- ["[" [name {"," name}] "]" "->"] "{" [piece {";" piece}] "}"
  abbrev pub outline : Grammar Literal
  outline = do
    params ← declared ∪ pure []
    found ← braces
    pure (make_literal params found)

-- with brackets nested less deep than the number
abbrev pub outline_of : ℕ → Grammar Literal
outline_of n = outline (tuple n) (formula n)
