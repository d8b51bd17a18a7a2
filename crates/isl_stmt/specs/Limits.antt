-- public: the limits of statements.
use Rattle.std.specs.Prelude.{Bool, false, not}
use Rattle.std.specs.List.{list_all}
use Rattle.isl_text.specs.Limits.{is_within}
use Rattle.isl_tree.specs.declared.statement.Expr.{Expr}
use Rattle.isl_tree.specs.declared.statement.Stmt.{Stmt}
use Rattle.isl_tree.specs.Expr.{literals_of, statement_literals}
use Rattle.isl_kinds.specs.Parts.{Part}
use Rattle.isl_kinds.specs.Parts as part

-- each literal is within its limits
abbrev pub expression_is_within : Expr → Bool
expression_is_within expr = list_all is_within (literals_of expr)

abbrev pub statement_is_within : Stmt → Bool
statement_is_within stmt = list_all is_within (statement_literals stmt)

-- a literal that is not
abbrev pub is_too_great : Part → Bool
is_too_great (part.literal l) = not (is_within l)
is_too_great _ = false
