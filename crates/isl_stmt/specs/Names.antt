-- public: the names of a statement. (isl manual, the notation; the iscc chapter of the barvinok manual)
use Rattle.std.specs.Prelude.{◌≡◌, Bool, false}
use Rattle.isl_tree.specs.declared.statement.Stmt.{Stmt}
use Rattle.isl_tree.specs.declared.statement.Stmt.TheVariants.{Empty, Bind, Show, Assume}
use Rattle.isl_kinds.specs.Typed.{is_dollar}
use Rattle.isl_flat.specs.Simple.{has_dollar}

-- the name that a statement binds begins with `$`
abbrev pub binds_dollar : Stmt → Bool
binds_dollar Empty = false
binds_dollar (Bind name expr) = is_dollar name
binds_dollar (Show expr) = false
binds_dollar (Assume set) = false

-- no name begins with `$`, neither one that stands in the statement nor the one that it binds
pub record HasNoDollar (stmt : Stmt) : Type 0 where
  pub inside : has_dollar stmt ≡ false
  pub bound : binds_dollar stmt ≡ false
