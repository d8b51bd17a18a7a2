-- public: the grammar of expressions. (barvinok manual, iscc: the operations; their precedences are those of this project)
use Rattle.std.specs.Prelude.{◌≡◌, ℕ, zero, suc, [], ◌∷◌, Some}
use Rattle.isl_token.specs.TokenView.{Token}
use Rattle.isl_token.specs.TokenView as token
use Rattle.isl_token.specs.declared.token.Kind.TheVariants as k
use Rattle.isl_token.specs.Token.{Text}
use Rattle.isl_token.specs.Spelling.{Grammar, ◌>>=◌, ◌>>◌, ◌∪◌, pure, word, number, many}
use Rattle.isl_tree.specs.declared.tree.Literal.{Literal}
use Rattle.isl_text.specs.Literal.{literal_grammar}
use Rattle.isl_tree.specs.declared.statement.Binary.{Binary}
use Rattle.isl_tree.specs.declared.statement.Link.{Link}
use Rattle.isl_tree.specs.declared.statement.Postfix.{Postfix}
use Rattle.isl_tree.specs.declared.statement.Postfix.TheVariants.{Inverse, Apply, Item}
use Rattle.isl_tree.specs.declared.statement.Prefix.{Prefix}
use Rattle.isl_tree.specs.declared.statement.Expr.{Expr}
use Rattle.isl_tree.specs.declared.statement.Expr.TheVariants as e
use Rattle.isl_stmt.specs.declared.expression.Flow.{Flow}
use Rattle.isl_stmt.specs.declared.expression.Flow.TheVariants as flow
use Rattle.isl_stmt.specs.declared.operator.Precedence.{Precedence}
use Rattle.isl_stmt.specs.declared.operator.Precedence.TheVariants.{Test, Universal, Sum, Product, Join}
use Rattle.isl_stmt.specs.declared.word.Role.{Role}
use Rattle.isl_stmt.specs.declared.word.Role.TheVariants as role
use Rattle.isl_tree.specs.Words.{prefix_of}
use Rattle.isl_stmt.specs.Word.{role_of}
use Rattle.isl_stmt.specs.Operator.{operator_of, of_precedence}
use Rattle.isl_stmt.specs.Expression.{make_link, row_of, post_of, dependence}

-- one word of this role
abbrev pub said : Role → Grammar (Unit {0})
said r = λ _ ts. (text : Text) × (ts ≡ token.Word text ∷ []) × (role_of text ≡ r)

-- a word that is a name outside literals
abbrev pub variable : Grammar Text
variable = λ name ts. (ts ≡ token.Word name ∷ []) × (role_of name ≡ role.Name)

-- a word that stands before an operand
abbrev pub prefix : Grammar Prefix
prefix = λ found ts. (text : Text) × (ts ≡ token.Word text ∷ []) × (prefix_of text ≡ Some found)

-- an operator of this precedence
abbrev pub operator : Precedence → Grammar Binary
operator p = λ found ts. (t : Token) × (ts ≡ t ∷ []) × (of_precedence p (operator_of t) ≡ Some found)

module _ (p : Precedence) (item : Grammar Expr) where
  -- operator item
  abbrev pub link : Grammar Link
  link = do
    binary ← operator p
    operand ← item
    pure (make_link binary operand)

  -- item {operator item}
  abbrev pub rows : Grammar Expr
  rows = do
    first ← item
    more ← many link
    pure (row_of first more)

module _ (pre : Grammar Expr) where
  -- pre {"." pre}
  abbrev pub join : Grammar Expr
  join = rows Join pre

  -- join {("*" | "->*" | "%" | "cross") join}
  abbrev pub prod : Grammar Expr
  prod = rows Product join

  -- prod {("+" | "-" | "->-") prod}
  abbrev pub sum : Grammar Expr
  sum = rows Sum prod

  -- sum {"->" sum}
  abbrev pub univ : Grammar Expr
  univ = rows Universal sum

  -- univ {("=" | "<" | "<=" | ">" | ">=" | "<<" | "<<=" | ">>" | ">>=") univ}
  abbrev pub expr_with : Grammar Expr
  expr_with = rows Test univ

abbrev pub lone : Grammar Expr
lone = variable >>= λ name. pure (e.Name name)

abbrev pub whole_literal : Grammar Literal → Grammar Expr
whole_literal literal = literal >>= λ found. pure (e.Literal found)

-- "^-1"
abbrev pub inverse : Grammar Postfix
inverse = word k.Inverse >> pure Inverse

-- "[" number "]"
abbrev pub item : Grammar Postfix
item = do
  word k.OpenSquare
  at ← number
  word k.CloseSquare
  pure (Item at)

-- The parameter is an operand nested one level less.
module _ (nested : Grammar Expr) where
  -- "(" expr ")"
  abbrev pub enclosed : Grammar Expr
  enclosed = do
    word k.Open
    inner ← expr_with nested
    word k.Close
    pure inner

  abbrev pub applied : Grammar Postfix
  applied = enclosed >>= λ argument. pure (Apply argument)

  -- "^-1" | "(" expr ")" | "[" number "]"
  abbrev pub postfix : Grammar Postfix
  postfix = inverse ∪ applied ∪ item

  -- prefix pre
  abbrev pub prefixed : Grammar Expr
  prefixed = do
    found ← prefix
    operand ← nested
    pure (e.Prefix found operand)

-- The parameters are a literal, and an operand nested one level less.
module _ (literal : Grammar Literal) (nested : Grammar Expr) where
  -- name | literal | "(" expr ")"
  abbrev pub atom : Grammar Expr
  atom = lone ∪ whole_literal literal ∪ enclosed nested

  -- atom {"^-1" | "(" expr ")" | "[" number "]"}
  abbrev pub post : Grammar Expr
  post = do
    operand ← atom
    more ← many (postfix nested)
    pure (post_of operand more)

  -- ("any" | "last") post "before" post "under" post
  abbrev pub flows : Role → Flow → Grammar Expr
  flows first found = do
    said first
    source ← post
    said role.Before
    sink ← post
    said role.Under
    schedule ← post
    pure (dependence found source sink schedule)

  -- prefix pre | ("any" | "last") post "before" post "under" post | post
  abbrev pub pre_level : Grammar Expr
  pre_level = prefixed nested ∪ flows role.Any flow.Any ∪ flows role.Last flow.Last ∪ post

-- nested less deep than the number
unfoldable pub pre : ℕ → Grammar Expr
pre zero = λ _ _. ⊥
pre (suc n) = pre_level (literal_grammar (suc n)) (pre n)

abbrev pub expression : ℕ → Grammar Expr
expression n = expr_with (pre n)
