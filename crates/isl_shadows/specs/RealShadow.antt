-- public: rows that hold wherever some whole number at a column makes others hold, and perhaps elsewhere: a shadow of rational numbers.
use Rattle.std.specs.Prelude.{◌≡◌, ℕ, ℤ, pos, List, ◌++◌, length, All, Option, MatchOption}
use Rattle.isl_meter.specs.Gauge.{Gauge}
use Rattle.isl_piece.specs.declared.row.Row.{Row}
use Rattle.isl_piece.specs.Normal.{IsNormal}
use Rattle.isl_piece.specs.System.{HoldRows}
use Rattle.isl_omega.specs.Column.{HoldAt, IsProper}
use Rattle.isl_omega.specs.declared.sides.Sides.{Sides}
use Rattle.isl_shadows.specs.Exact.{rows_left}

-- normal rows over so many columns that hold at each point of P
pub record AreImplied (g : Gauge) (columns : ℕ) (P : List ℤ → Type 0) (rows : List Row) : Type 0 where
  pub proper : All (IsProper g columns) rows
  pub normal : IsNormal rows
  pub points : (point : List ℤ) → length point ≡ columns → P point → HoldRows rows point

-- the answer is such rows; none says that P has no point
abbrev pub IsImplied : Gauge → ℕ → (List ℤ → Type 0) → Option (List Row) → Type 0
IsImplied g columns P answer = MatchOption answer ((point : List ℤ) → length point ≡ columns → ¬ P point) (AreImplied g columns P)

-- ---- inside
-- the rows that do not depend on the column hold, and the real row of each pair, which do not depend on it either
abbrev pub HoldReally : List Row → ℕ → List ℤ → Type 0
HoldReally rows col point = HoldAt (rows_left col rows) col point (pos 0)

-- the bounds and the rows that do not depend on the column
abbrev pub bounds_and_free : Sides → List Row
bounds_and_free sides = (sides.lowers ++ sides.uppers) ++ sides.free
