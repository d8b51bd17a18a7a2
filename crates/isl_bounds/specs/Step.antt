-- public: congruences as steps of a loop. (Bastoul, code generation in the polyhedral model)
use Rattle.std.specs.Prelude.{◌≡◌, ◌↔◌, ℕ, ◌+◌, ℤ, pos, List}
use Rattle.isl_meter.specs.Gauge.{Gauge}
use Rattle.isl_piece.specs.declared.row.RowKind.TheVariants.{Divides}
use Rattle.isl_piece.specs.declared.row.Row.{Row}
use Rattle.isl_piece.specs.Row.{coef_at, HoldsRow, IsRowWithin, IsWellFormed}

-- a congruence over the variables and one column behind them, whose coefficient is 1: it tells what the column leaves modulo k
pub record IsStep (g : Gauge) (variables : ℕ) (step : Row) : Type 0 where
  pub formed : IsWellFormed (variables + 1) step
  pub within : IsRowWithin g step
  pub kind : step.kind ≡ Divides
  pub last : coef_at step variables ≡ pos 1

-- it holds where the row does
pub record IsStepOf (g : Gauge) (variables : ℕ) (row step : Row) : Type 0 where
  pub is : IsStep g variables step
  pub points : (point : List ℤ) → HoldsRow step point ↔ HoldsRow row point
