-- inner: numbers that leave modulo k what a step tells. (Bastoul, code generation in the polyhedral model)
use Rattle.std.specs.Prelude.{◌≡◌, ◌↔◌, ℕ, ℤ, ◌+ℤ◌, ◌-ℤ◌, ◌*ℤ◌, ◌≤ℤ◌, List, [], ◌∷◌, ◌++◌, length}
use Rattle.isl_meter.specs.Gauge.{Gauge}
use Rattle.isl_piece.specs.declared.row.Row.{Row}
use Rattle.isl_piece.specs.Row.{value_at}
use Rattle.isl_frame.specs.Frame.{isolated}
use Rattle.isl_loop.specs.declared.tree.Expr.{Expr}
use Rattle.isl_loop.specs.Expr.{ceil_div, expr_value}
use Rattle.isl_loop.specs.Formed.{IsExprOver}
use Rattle.isl_bounds.specs.Bound.{HoldSome}

-- the first number from low on that leaves modulo k what own leaves
abbrev pub first_turn : ℤ → ℤ → ℤ → ℤ
first_turn own k low = own +ℤ k *ℤ ceil_div (low -ℤ own) k

-- the expression is the first number from low on at which the step holds
pub record IsAlignedTo (g : Gauge) (variables : ℕ) (step : Row) (low : List ℤ → ℤ) (first : Expr) : Type 0 where
  pub over : IsExprOver g variables first
  pub value : (point : List ℤ) → length point ≡ variables
      → expr_value first point ≡ first_turn (value_at (isolated variables step) point) step.k (low point)

-- The expression is the first number at which some group and the step hold, where the groups are what is not less than a bound.
pub record IsFirstTurn (g : Gauge) (variables : ℕ) (groups : List (List Row)) (step : Row) (first : Expr) : Type 0 where
  pub bound : List ℤ → ℤ
  pub exact : (point : List ℤ) (x : ℤ) → length point ≡ variables → (bound point ≤ℤ x) ↔ HoldSome groups (point ++ x ∷ [])
  pub aligned : IsAlignedTo g variables step bound first
