-- inner: rows and systems into which equations that give a column were put. (isl manual, on equality constraints)
use Rattle.std.specs.Prelude.{◌≡◌, ◌↔◌, ℕ, ℤ, List, All, length}
use Rattle.isl_meter.specs.Gauge.{Gauge}
use Rattle.isl_piece.specs.declared.row.Row.{Row}
use Rattle.isl_piece.specs.declared.system.System.{System}
use Rattle.isl_piece.specs.Row.{IsRowWithin, IsWellFormed}
use Rattle.isl_piece.specs.System.{HoldRows, HoldsSystem, IsSystemWithin}

-- as many rows, which hold at the same points
pub record AreAlike (g : Gauge) (old new : List Row) : Type 0 where
  pub count : length new ≡ length old
  pub formed : (columns : ℕ) → All (IsWellFormed columns) old → All (IsWellFormed columns) new
  pub within : All (IsRowWithin g) new
  pub points : (point : List ℤ) → HoldRows new point ↔ HoldRows old point

-- a system over the same columns that holds at the same points
pub record IsSolvedFrom (g : Gauge) (old new : System) : Type 0 where
  pub columns : new.columns ≡ old.columns
  pub definitions : new.definitions ≡ old.definitions
  pub within : IsSystemWithin g new
  pub points : (point : List ℤ) → HoldsSystem new point ↔ HoldsSystem old point
