-- public: inequalities as bounds of the last of their columns. (Bastoul, code generation in the polyhedral model; isl manual, on abstract
-- syntax trees)
use Rattle.std.specs.Prelude.{◌≡◌, ◌↔◌, ℕ, ◌+◌, ◌<◌, ℤ, pos, ◌<ℤ◌, List, [], ◌∷◌, ◌++◌, All, Any, length}
use Rattle.isl_meter.specs.Gauge.{Gauge}
use Rattle.isl_piece.specs.declared.row.RowKind.TheVariants.{AtLeast}
use Rattle.isl_piece.specs.declared.row.Row.{Row}
use Rattle.isl_piece.specs.Row.{coef_at, IsRowWithin, IsWellFormed}
use Rattle.isl_piece.specs.System.{HoldRows}
use Rattle.isl_loop.specs.declared.tree.Expr.{Expr}
use Rattle.isl_loop.specs.Expr.{expr_value}
use Rattle.isl_loop.specs.Formed.{IsExprOver}
use Rattle.isl_bounds.specs.Side.{Lets, toward}
use Rattle.isl_bounds.specs.declared.side.Side.{Side}

-- an inequality over the variables and one column behind them, which bounds the column from the side
pub record IsEnd (g : Gauge) (variables : ℕ) (side : Side) (r : Row) : Type 0 where
  pub formed : IsWellFormed (variables + 1) r
  pub within : IsRowWithin g r
  pub kind : r.kind ≡ AtLeast
  pub toward : pos 0 <ℤ toward side (coef_at r variables)

-- some of these, one at least
pub record AreEnds (g : Gauge) (variables : ℕ) (side : Side) (rows : List Row) : Type 0 where
  pub ends : All (IsEnd g variables side) rows
  pub some : 0 < length rows

-- groups, one at least
pub record AreEndGroups (g : Gauge) (variables : ℕ) (side : Side) (groups : List (List Row)) : Type 0 where
  pub each : All (AreEnds g variables side) groups
  pub some : 0 < length groups

-- all rows of some group hold
abbrev pub HoldSome : List (List Row) → List ℤ → Type 0
HoldSome groups point = Any (λ rows. HoldRows rows point) groups

-- the expression over the variables lets exactly the numbers be at which, behind these, P holds
pub record IsBoundOf (g : Gauge) (variables : ℕ) (side : Side) (P : List ℤ → Type 0) (e : Expr) : Type 0 where
  pub over : IsExprOver g variables e
  pub exact : (point : List ℤ) (x : ℤ) → length point ≡ variables → Lets side (expr_value e point) x ↔ P (point ++ x ∷ [])
