-- inner: how expressions are read.
use Rattle.std.specs.Prelude.{ℕ, zero, suc, Bool, true, false, List, [], ◌∷◌}
use Rattle.isl_token.specs.TokenView.{Token}
use Rattle.isl_token.specs.declared.token.Kind.{Kind}
use Rattle.isl_token.specs.declared.token.Kind.TheVariants as k
use Rattle.isl_token.specs.Reading.{Parser, ◌>>=◌, ◌>>◌, pure, none, head_kind, peek, skip, expect, number, row}
use Rattle.isl_tree.specs.declared.tree.Literal.{Literal}
use Rattle.isl_text.specs.Literal.{literal}
use Rattle.isl_tree.specs.declared.statement.Binary.{Binary}
use Rattle.isl_tree.specs.declared.statement.Link.{Link}
use Rattle.isl_tree.specs.declared.statement.Postfix.{Postfix}
use Rattle.isl_tree.specs.declared.statement.Postfix.TheVariants.{Inverse, Apply, Item}
use Rattle.isl_tree.specs.declared.statement.Expr.{Expr}
use Rattle.isl_tree.specs.declared.statement.Expr.TheVariants as e
use Rattle.isl_stmt.specs.declared.expression.Flow.{Flow}
use Rattle.isl_stmt.specs.declared.expression.Flow.TheVariants as flow
use Rattle.isl_stmt.specs.declared.operator.Precedence.{Precedence}
use Rattle.isl_stmt.specs.declared.operator.Precedence.TheVariants.{Test, Universal, Sum, Product, Join}
use Rattle.isl_stmt.specs.declared.word.Role.{Role}
use Rattle.isl_stmt.specs.declared.word.Role.TheVariants as role
use Rattle.isl_stmt.specs.Word.{look, expect_word, variable, prefix}
use Rattle.isl_stmt.specs.Operator.{sees_operator, operator}

-- ---- how the code makes a tree

abbrev pub make_link : Binary → Expr → Link
make_link operator operand = record { operator = operator; operand = operand }

-- what nothing is joined to is itself
abbrev pub row_of : Expr → List Link → Expr
row_of first [] = first
row_of first (link ∷ links) = e.Row first (link ∷ links)

-- what nothing follows is itself
abbrev pub post_of : Expr → List Postfix → Expr
post_of operand [] = operand
post_of operand (postfix ∷ postfixes) = e.Post operand (postfix ∷ postfixes)

abbrev pub dependence : Flow → Expr → Expr → Expr → Expr
dependence flow.Any source sink schedule = e.Any source sink schedule
dependence flow.Last source sink schedule = e.Last source sink schedule

-- ---- rows of operators of one precedence

module _ (p : Precedence) (item : Parser Expr) where
  unfoldable pub link : Parser Link
  link = do
    binary ← operator p
    operand ← item
    pure (make_link binary operand)

  abbrev pub links : Parser (List Link)
  links = row (sees_operator p) link []

  unfoldable pub rows : Parser Expr
  rows = do
    first ← item
    more ← links
    pure (row_of first more)

-- ---- the precedences. The parameter reads what the tightest operator joins.

module _ (pre : Parser Expr) where
  abbrev pub join : Parser Expr
  join = rows Join pre

  abbrev pub prod : Parser Expr
  prod = rows Product join

  abbrev pub sum : Parser Expr
  sum = rows Sum prod

  abbrev pub univ : Parser Expr
  univ = rows Universal sum

  abbrev pub expr_with : Parser Expr
  expr_with = rows Test univ

  -- what an operator joins
  abbrev pub operand : Precedence → Parser Expr
  operand Test = univ
  operand Universal = sum
  operand Sum = prod
  operand Product = join
  operand Join = pre

  abbrev pub row_at : Precedence → Parser Expr
  row_at p = rows p (operand p)

-- ---- parts of operands

unfoldable pub lone : Parser Expr
lone = variable >>= λ name. pure (e.Name name)

unfoldable pub whole_literal : Parser Literal → Parser Expr
whole_literal literal = literal >>= λ found. pure (e.Literal found)

-- a number and `]`, after the bracket
unfoldable pub item : Parser Postfix
item = do
  at ← number
  expect k.CloseSquare
  pure (Item at)

abbrev pub begins_postfix : Kind → Bool
begins_postfix k.Inverse = true
begins_postfix k.Open = true
begins_postfix k.OpenSquare = true
begins_postfix _ = false

abbrev pub sees_postfix : List Token → Bool
sees_postfix ts = begins_postfix (head_kind ts)

-- The parameter reads an operand nested one level less.
module _ (nested : Parser Expr) where
  -- an expression and `)`, after the bracket
  unfoldable pub enclosed : Parser Expr
  enclosed = do
    inner ← expr_with nested
    expect k.Close
    pure inner

  -- the same, as what a map is applied to
  unfoldable pub applied : Parser Postfix
  applied = enclosed >>= λ argument. pure (Apply argument)

  abbrev pub postfix_by : Kind → Parser Postfix
  postfix_by k.Inverse = skip >> pure Inverse
  postfix_by k.Open = skip >> applied
  postfix_by k.OpenSquare = skip >> item
  postfix_by _ = none

  unfoldable pub postfix : Parser Postfix
  postfix = peek >>= postfix_by

  abbrev pub postfixes : Parser (List Postfix)
  postfixes = row sees_postfix postfix []

  unfoldable pub prefixed : Parser Expr
  prefixed = do
    word ← prefix
    operand ← nested
    pure (e.Prefix word operand)

-- The parameters read a literal, and an operand nested one level less.
module _ (literal : Parser Literal) (nested : Parser Expr) where
  abbrev pub atom_by : Kind → Parser Expr
  atom_by k.Open = skip >> enclosed nested
  atom_by k.OpenSquare = whole_literal literal
  atom_by k.OpenBrace = whole_literal literal
  atom_by _ = lone

  unfoldable pub atom : Parser Expr
  atom = peek >>= atom_by

  unfoldable pub post : Parser Expr
  post = do
    operand ← atom
    more ← postfixes nested
    pure (post_of operand more)

  -- a source, `before` a sink, `under` a schedule, after the word
  unfoldable pub flows : Flow → Parser Expr
  flows found = do
    source ← post
    expect_word role.Before
    sink ← post
    expect_word role.Under
    schedule ← post
    pure (dependence found source sink schedule)

  abbrev pub pre_by : Role → Parser Expr
  pre_by role.Prefix = prefixed nested
  pre_by role.Any = skip >> flows flow.Any
  pre_by role.Last = skip >> flows flow.Last
  pre_by _ = post

  unfoldable pub pre_level : Parser Expr
  pre_level = look >>= pre_by

-- nested less deep than the number
unfoldable pub pre : ℕ → Parser Expr
pre zero = none
pre (suc n) = pre_level (literal (suc n)) (pre n)

abbrev pub expression : ℕ → Parser Expr
expression n = expr_with (pre n)
