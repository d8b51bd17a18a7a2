-- public: rows without those that are known already. (isl manual, on simplification in a context)
use Rattle.std.specs.Prelude.{◌≡◌, ◌↔◌, ℕ, ◌<◌, ℤ, List, ◌++◌, All, Contains, length, slice_index_or}
use Rattle.std.specs.List.{remove}
use Rattle.isl_meter.specs.Gauge.{Gauge}
use Rattle.isl_piece.specs.declared.row.Row.{Row}
use Rattle.isl_piece.specs.Row.{HoldsRow, IsRowWithin, IsWellFormed}
use Rattle.isl_piece.specs.System.{HoldRows}

-- rows over so many variables, with their numbers within the limit
pub record AreRowsOver (g : Gauge) (variables : ℕ) (rows : List Row) : Type 0 where
  pub formed : All (IsWellFormed variables) rows
  pub within : All (IsRowWithin g) rows

-- the row holds wherever the others do
abbrev pub IsKnown : ℕ → List Row → Row → Type 0
IsKnown variables others r = (point : List ℤ) → length point ≡ variables → HoldRows others point → HoldsRow r point

-- no row holds wherever the context and the other ones do
abbrev pub NoneIsKnown : ℕ → List Row → List Row → Type 0
NoneIsKnown variables context rows =
    (at : ℕ) (d : Row) → at < length rows → ¬ IsKnown variables (context ++ remove rows at) (slice_index_or rows at d)

-- the other rows hold wherever the rows do
abbrev pub AreKnown : ℕ → List Row → List Row → Type 0
AreKnown variables rows others = (point : List ℤ) → length point ≡ variables → HoldRows rows point → HoldRows others point

-- some of the rows, which say as much where the context holds
pub record IsNeeded (variables : ℕ) (context rows kept : List Row) : Type 0 where
  pub each : All (Contains rows) kept
  pub points : (point : List ℤ) → length point ≡ variables → HoldRows context point → HoldRows kept point ↔ HoldRows rows point
