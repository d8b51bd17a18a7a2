-- inner: how statements are read.
use Rattle.std.specs.Prelude.{ℕ, Bool, ◌&&◌, nat_eq, List, length, Some, if◌then◌else◌}
use Rattle.isl_token.specs.TokenView.{Token}
use Rattle.isl_token.specs.declared.token.Kind.TheVariants as k
use Rattle.isl_token.specs.Token.{is_kind}
use Rattle.isl_token.specs.Reading.{Parser, ◌>>=◌, ◌>>◌, pure, second_kind, skip, expect}
use Rattle.isl_tree.specs.declared.tree.Literal.{Literal}
use Rattle.isl_tree.specs.declared.statement.Expr.{Expr}
use Rattle.isl_tree.specs.declared.statement.Stmt.{Stmt}
use Rattle.isl_tree.specs.declared.statement.Stmt.TheVariants.{Empty, Bind, Show, Assume}
use Rattle.isl_text.specs.Pset.{pset}
use Rattle.isl_stmt.specs.declared.word.Role.{Role}
use Rattle.isl_stmt.specs.declared.word.Role.TheVariants as role
use Rattle.isl_stmt.specs.Word.{is_role, head_role, variable}
use Rattle.isl_stmt.specs.Expression.{expression}

-- a name and `:=`
abbrev pub sees_binding : List Token → Bool
sees_binding ts = is_role (head_role ts) role.Name && is_kind (second_kind ts) k.Assign

-- the parameter reads an expression
module _ (expr : Parser Expr) where
  unfoldable pub bound : Parser Stmt
  bound = do
    name ← variable
    expect k.Assign
    value ← expr
    pure (Bind name value)

  unfoldable pub shown : Parser Stmt
  shown = expr >>= λ value. pure (Show value)

-- the first parameter reads a parameter set
unfoldable pub assumed : Parser Literal → Parser Stmt
assumed set = set >>= λ found. pure (Assume found)

module _ (set : Parser Literal) (expr : Parser Expr) where
  -- by what the next token is
  abbrev pub unbound_by : Role → Parser Stmt
  unbound_by role.Print = skip >> shown expr
  unbound_by role.Assume = skip >> assumed set
  unbound_by _ = shown expr

  abbrev pub unbound : Parser Stmt
  unbound = λ ts. unbound_by (head_role ts) ts

  abbrev pub some_statement : Parser Stmt
  some_statement = λ ts. if sees_binding ts then bound expr ts else unbound ts

  unfoldable pub statement_with : Parser Stmt
  statement_with = λ ts. if nat_eq (length ts) 0 then Some (Empty, ts) else some_statement ts

abbrev pub statement : ℕ → Parser Stmt
statement n = statement_with (pset n) (expression n)
