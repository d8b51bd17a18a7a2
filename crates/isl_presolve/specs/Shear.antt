-- inner: rows whose columns are changed by a unimodular map. (Schrijver, Theory of linear and integer programming: elementary column
-- operations, unimodular matrices)
use Rattle.std.specs.Prelude.{◌↔◌, ℕ, ℤ, ◌+ℤ◌, ◌*ℤ◌, List, All, slice_set}
use Rattle.isl_meter.specs.Gauge.{Gauge}
use Rattle.isl_piece.specs.declared.row.Row.{Row}
use Rattle.isl_piece.specs.Normal.{IsNormal}
use Rattle.isl_piece.specs.Row.{coef_at}
use Rattle.isl_omega.specs.Column.{IsProper}
use Rattle.isl_presolve.specs.Emptiness.{HoldNowhere}

-- so many times the coefficient at `from` is added to the one at `to`: a whole number at `from` stands for itself and so many times the one
-- at `to`
abbrev pub sheared : ℕ → ℕ → ℤ → Row → Row
sheared from to times r =
    record { kind = r.kind; coefs = slice_set r.coefs to (coef_at r to +ℤ times *ℤ coef_at r from); constant = r.constant; k = r.k }

-- rows over the same columns, which hold at no point exactly where the old ones do
pub record AreSheared (g : Gauge) (columns : ℕ) (old new : List Row) : Type 0 where
  pub proper : All (IsProper g columns) new
  pub nowhere : HoldNowhere columns new ↔ HoldNowhere columns old

-- such rows, in normal form
pub record IsReduction (g : Gauge) (columns : ℕ) (old new : List Row) : Type 0 where
  pub are : AreSheared g columns old new
  pub normal : IsNormal new
