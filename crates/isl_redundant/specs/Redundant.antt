-- public: rows without some that the others imply. (isl manual, on removing redundancies; Farkas, on what inequalities imply)
use Rattle.std.specs.Prelude.{◌≡◌, ◌↔◌, ◌⊎◌, ℤ, pos, ◌≤ℤ◌, ◌*ℤ◌, List, [], ◌∷◌, All, length, ℕ}
use Rattle.isl_meter.specs.Gauge.{Gauge}
use Rattle.isl_piece.specs.declared.row.Row.{Row}
use Rattle.isl_piece.specs.Normal.{IsNormal}
use Rattle.isl_piece.specs.Row.{HoldsRow, IsRowWithin, IsWellFormed, value_at}
use Rattle.isl_piece.specs.System.{HoldRows}

-- the first rows are some of the others, in their order
abbrev pub AreSome : List Row → List Row → Type 0
AreSome [] rows = Unit {0}
AreSome (r ∷ kept) [] = ⊥
AreSome (r ∷ kept) (s ∷ rows) = ((r ≡ s) × AreSome kept rows) ⊎ AreSome (r ∷ kept) rows

-- a row holds wherever the others do
abbrev pub IsImplied : List Row → Row → Type 0
IsImplied others r = (point : List ℤ) → HoldRows others point → HoldsRow r point

-- rows without some that the others imply
pub record IsReduced (columns : ℕ) (rows kept : List Row) : Type 0 where
  pub some : AreSome kept rows
  pub points : (point : List ℤ) → HoldRows kept point ↔ HoldRows rows point
  pub normal : IsNormal rows → IsNormal kept
  pub shape : All (IsWellFormed columns) kept
  pub within : (g : Gauge) → All (IsRowWithin g) rows → All (IsRowWithin g) kept

-- ---- inside
-- a meter by which no work is counted: numbers of 127 bits
abbrev pub calculator : Gauge
calculator = record { bits = 127; budget = 1; units = 0; overflows = 0; spents = 0 }

-- so many times the form of a row are at least 0 where the row holds
abbrev pub IsAtLeast : Row → ℤ → Type 0
IsAtLeast r times = (point : List ℤ) → HoldsRow r point → pos 0 ≤ℤ (times *ℤ value_at r point)

-- a form over so many columns which is at least 0 where the rows hold
pub record IsSumOf (columns : ℕ) (rows : List Row) (sum : Row) : Type 0 where
  pub width : length sum.coefs ≡ columns
  pub within : IsRowWithin calculator sum
  pub holds : (point : List ℤ) → HoldRows rows point → pos 0 ≤ℤ value_at sum point
