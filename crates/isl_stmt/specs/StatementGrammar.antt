-- public: the grammar of statements. (barvinok manual, iscc)
use Rattle.std.specs.Prelude.{ℕ}
use Rattle.isl_token.specs.declared.token.Kind.TheVariants as k
use Rattle.isl_token.specs.Spelling.{Grammar, ◌>>=◌, ◌>>◌, ◌∪◌, pure, word}
use Rattle.isl_tree.specs.declared.tree.Literal.{Literal}
use Rattle.isl_tree.specs.declared.statement.Expr.{Expr}
use Rattle.isl_tree.specs.declared.statement.Stmt.{Stmt}
use Rattle.isl_tree.specs.declared.statement.Stmt.TheVariants.{Empty, Bind, Show, Assume}
use Rattle.isl_text.specs.PsetGrammar.{pset_grammar}
use Rattle.isl_stmt.specs.declared.word.Role.TheVariants as role
use Rattle.isl_stmt.specs.ExpressionGrammar.{said, variable, expression}

module _ (expr : Grammar Expr) where
  -- name ":=" expr
  abbrev pub bound : Grammar Stmt
  bound = do
    name ← variable
    word k.Assign
    value ← expr
    pure (Bind name value)

  -- expr
  abbrev pub shown : Grammar Stmt
  shown = expr >>= λ value. pure (Show value)

  -- "print" expr
  abbrev pub printed : Grammar Stmt
  printed = said role.Print >> shown

-- "assume" pset
abbrev pub assumed : Grammar Literal → Grammar Stmt
assumed set = do
  said role.Assume
  found ← set
  pure (Assume found)

-- [name ":=" expr | "print" expr | expr | "assume" pset]
abbrev pub statement_with : Grammar Literal → Grammar Expr → Grammar Stmt
statement_with set expr = pure Empty ∪ bound expr ∪ printed expr ∪ shown expr ∪ assumed set

-- with brackets nested less deep than the number
abbrev pub statement_grammar : ℕ → Grammar Stmt
statement_grammar n = statement_with (pset_grammar n) (expression n)
