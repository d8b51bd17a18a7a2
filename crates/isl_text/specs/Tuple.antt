-- inner: tuples: how they are read.
use Rattle.std.specs.Prelude.{◌≡◌, ℕ, zero, suc, Bool, ◌&&◌, List, [], Option, Some, None, Result, Ok, Err, if◌then◌else◌}
use Rattle.isl_token.specs.declared.fault.Fault.{Fault}
use Rattle.isl_token.specs.declared.fault.Fault.TheVariants.{NoMemory, Syntax}
use Rattle.isl_token.specs.TokenView.{Token}
use Rattle.isl_token.specs.declared.token.Kind.{Kind}
use Rattle.isl_token.specs.declared.token.Kind.TheVariants as k
use Rattle.isl_token.specs.Token.{Text, is_kind}
use Rattle.isl_token.specs.Reading.{Parser, ◌>>=◌, ◌>>◌, pure, none, second_kind, sees, peek, skip, expect, name, separated}
use Rattle.isl_tree.specs.declared.tree.Signed.{Signed}
use Rattle.isl_tree.specs.declared.tree.Entry.{Entry}
use Rattle.isl_tree.specs.declared.tree.Entry.TheVariants.{Plain, Named}
use Rattle.isl_tree.specs.declared.tree.Tuple.{Tuple}
use Rattle.isl_tree.specs.declared.tree.Tuple.TheVariants.{Leaf, Pair}
use Rattle.isl_formula.specs.declared.ahead.Mark.TheVariants as mark
use Rattle.isl_formula.specs.Ahead.{begins}
use Rattle.isl_formula.specs.Term.{term}

-- a name and `=`
abbrev pub sees_named : List Token → Bool
sees_named ts = sees k.Name ts && is_kind (second_kind ts) k.Equal

module _ (term : Parser (List Signed)) where
  unfoldable pub named_entry : Parser Entry
  named_entry = do
    new ← name
    expect k.Equal
    value ← term
    pure (Named new value)

  unfoldable pub plain_entry : Parser Entry
  plain_entry = term >>= λ value. pure (Plain value)

  abbrev pub entry : Parser Entry
  entry = λ ts. if sees_named ts then named_entry ts else plain_entry ts

  abbrev pub entry_row : Parser (List Entry)
  entry_row = separated k.Comma entry

  abbrev pub entries : Parser (List Entry)
  entries = λ ts. if sees k.CloseSquare ts then Some ([], ts) else entry_row ts

  -- `[`, entries and `]`
  unfoldable pub leaf : Option Text → Parser Tuple
  leaf title = do
    expect k.OpenSquare
    found ← entries
    expect k.CloseSquare
    pure (Leaf title found)

  unfoldable pub named_leaf : Parser Tuple
  named_leaf = name >>= λ title. leaf (Some title)

-- The parameters read a term, and a tuple nested one level less.
module _ (term : Parser (List Signed)) (nested : Parser Tuple) where
  -- tuple, `->`, tuple and `]`, after the bracket
  unfoldable pub pair : Parser Tuple
  pair = do
    first ← nested
    expect k.Arrow
    second ← nested
    expect k.CloseSquare
    pure (Pair first second)

  abbrev pub unnamed : Parser Tuple
  unnamed = λ ts. if begins k.OpenSquare mark.Arrow ts then (skip >> pair) ts else leaf term None ts

  abbrev pub tuple_by : Kind → Parser Tuple
  tuple_by kind = if is_kind kind k.Name then named_leaf term else unnamed

  unfoldable pub tuple_level : Parser Tuple
  tuple_level = peek >>= tuple_by

-- nested less deep than the number
unfoldable pub tuple : ℕ → Parser Tuple
tuple zero = none
tuple (suc n) = tuple_level (term (suc n)) (tuple n)

-- what a function that makes a tree ensures: that tree, unless memory fails
abbrev pub IsMade : {A : Type 0} → Result A Fault → A → Type 0
IsMade (Ok a) made = a ≡ made
IsMade (Err NoMemory) made = Unit {0}
IsMade (Err Syntax) made = ⊥
