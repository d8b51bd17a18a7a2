-- inner: formulas: how they are read.
use Rattle.std.specs.Prelude.{ℕ, zero, suc, List, [], ◌∷◌, Some, if◌then◌else◌}
use Rattle.isl_token.specs.declared.token.Kind.{Kind}
use Rattle.isl_token.specs.declared.token.Kind.TheVariants as k
use Rattle.isl_token.specs.Reading.{Parser, ◌>>=◌, ◌>>◌, pure, none, sees, peek, skip, expect, row}
use Rattle.isl_tree.specs.declared.tree.Signed.{Signed}
use Rattle.isl_tree.specs.declared.tree.Formula.{Formula}
use Rattle.isl_tree.specs.declared.tree.Formula.TheVariants as f
use Rattle.isl_formula.specs.declared.ahead.Mark.TheVariants as mark
use Rattle.isl_formula.specs.declared.formula.Operator.{Operator}
use Rattle.isl_formula.specs.declared.formula.Operator.TheVariants as operator
use Rattle.isl_formula.specs.Ahead.{begins}
use Rattle.isl_formula.specs.Term.{term}
use Rattle.isl_formula.specs.Chain.{chain, binders}

-- ---- rows of one operator

module _ (sep : Kind) (make : List Formula → Formula) (item : Parser Formula) where
  unfoldable pub next_item : Parser Formula
  next_item = skip >> item

  abbrev pub rest_of_row : Formula → Parser Formula
  rest_of_row first = do
    second ← next_item
    all ← row (sees sep) next_item (first ∷ second ∷ [])
    pure (make all)

  abbrev pub row_on : Formula → Parser Formula
  row_on first = λ ts. if sees sep ts then rest_of_row first ts else Some (first, ts)

  -- one item, which is itself, or more
  unfoldable pub rows : Parser Formula
  rows = item >>= row_on

-- ---- the three operators. The parameter reads a unary.

abbrev pub sign_of : Operator → Kind
sign_of operator.Implies = k.Implies
sign_of operator.Or = k.Or
sign_of operator.And = k.And

abbrev pub joined : Operator → List Formula → Formula
joined operator.Implies parts = f.Implies parts
joined operator.Or parts = f.Or parts
joined operator.And parts = f.And parts

module _ (unary : Parser Formula) where
  abbrev pub conj : Parser Formula
  conj = rows k.And f.And unary

  abbrev pub disj : Parser Formula
  disj = rows k.Or f.Or conj

  abbrev pub formula_with : Parser Formula
  formula_with = rows k.Implies f.Implies disj

  -- what an operator joins
  abbrev pub operand : Operator → Parser Formula
  operand operator.Implies = disj
  operand operator.Or = conj
  operand operator.And = unary

  abbrev pub next_of : Operator → Parser Formula
  next_of o = next_item (sign_of o) (joined o) (operand o)

  abbrev pub row_of : Operator → Parser Formula
  row_of o = rows (sign_of o) (joined o) (operand o)

-- ---- formulas. The parameters read a term, and a unary nested one level less.

module _ (term : Parser (List Signed)) (nested : Parser Formula) where
  -- a formula and `)`, after the bracket
  unfoldable pub group : Parser Formula
  group = do
    inner ← formula_with nested
    expect k.Close
    pure inner

  -- binders, `:` and a formula
  unfoldable pub bound : Parser Formula
  bound = do
    names ← binders term
    expect k.Colon
    inner ← formula_with nested
    pure (f.Exists names inner)

  -- the same and `)`, after the bracket
  unfoldable pub bound_in_brackets : Parser Formula
  bound_in_brackets = do
    whole ← bound
    expect k.Close
    pure whole

  unfoldable pub exists : Parser Formula
  exists = λ ts. if sees k.Open ts then (skip >> bound_in_brackets) ts else bound ts

  unfoldable pub negated : Parser Formula
  negated = do
    inner ← nested
    pure (f.Not inner)

  -- a formula in brackets, or a chain of comparisons
  abbrev pub other : Parser Formula
  other = λ ts. if begins k.Open mark.Formula ts then (skip >> group) ts else chain term ts

  abbrev pub unary_by : Kind → Parser Formula
  unary_by k.Not = skip >> negated
  unary_by k.Exists = skip >> exists
  unary_by k.True = skip >> pure f.True
  unary_by k.False = skip >> pure f.False
  unary_by _ = other

  unfoldable pub unary_level : Parser Formula
  unary_level = peek >>= unary_by

-- nested less deep than the number
unfoldable pub unary : ℕ → Parser Formula
unary zero = none
unary (suc n) = unary_level (term (suc n)) (unary n)

abbrev pub formula : ℕ → Parser Formula
formula n = formula_with (unary n)
