-- inner: columns at which a congruence and bounds leave one number. (Pugh, the Omega test, on equalities with bounded variables)
use Rattle.std.specs.Prelude.{◌≡◌, ◌≢◌, ◌↔◌, ℕ, ◌<◌, ℤ, pos, ◌≤ℤ◌, List, All, IfSome, length, slice_index_or}
use Rattle.isl_math.specs.Divide.{Divides}
use Rattle.isl_meter.specs.Gauge.{Gauge}
use Rattle.isl_piece.specs.declared.row.Row.{Row}
use Rattle.isl_piece.specs.Normal.{IsNormal}
use Rattle.isl_piece.specs.System.{HoldRows}
use Rattle.isl_omega.specs.Column.{IsProper}
use Rattle.isl_presolve.specs.declared.fixed.Range.{Range}

-- ---- numbers
-- all numbers but the one at this column are 0
abbrev pub IsAlone : ℕ → List ℤ → Type 0
IsAlone col cs = (i : ℕ) → i < length cs → i ≢ col → slice_index_or cs i (pos 0) ≡ pos 0

-- g divides all numbers but the one at this column
abbrev pub DividesOthers : ℤ → ℕ → List ℤ → Type 0
DividesOthers g col cs = (i : ℕ) → i < length cs → i ≢ col → Divides g (slice_index_or cs i (pos 0))

-- ---- ranges
-- the number is within the bounds that there are
pub record IsInRange (range : Range) (x : ℤ) : Type 0 where
  pub low : IfSome range.least (λ least. least ≤ℤ x)
  pub high : IfSome range.greatest (λ greatest. x ≤ℤ greatest)

-- wherever the rows hold, the number at the column is in the range
abbrev pub IsRangeAt : ℕ → List Row → ℕ → Range → Type 0
IsRangeAt columns rows col range =
    (point : List ℤ) → length point ≡ columns → HoldRows rows point → IsInRange range (slice_index_or point col (pos 0))

-- a range for each of so many columns
pub record AreRanges (columns : ℕ) (rows : List Row) (ranges : List Range) : Type 0 where
  pub count : length ranges ≡ columns
  pub each : (col : ℕ) (other : Range) → col < columns → IsRangeAt columns rows col (slice_index_or ranges col other)

-- ---- rows
-- rows over the same columns, which hold wherever the others do
pub record AreFixed (g : Gauge) (columns : ℕ) (rows found : List Row) : Type 0 where
  pub proper : All (IsProper g columns) found
  pub implied : (point : List ℤ) → length point ≡ columns → HoldRows rows point → HoldRows found point

-- normal rows over the same columns, which hold at the same points
pub record HoldAlike (g : Gauge) (columns : ℕ) (old new : List Row) : Type 0 where
  pub proper : All (IsProper g columns) new
  pub normal : IsNormal new
  pub points : (point : List ℤ) → length point ≡ columns → HoldRows new point ↔ HoldRows old point
