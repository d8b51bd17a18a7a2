-- inner: systems whose numbers are less than those of others.
use Rattle.std.specs.Prelude.{◌≡◌, ◌↔◌, ℕ, ◌+◌, ◌≤◌, ℤ, ◌<ℤ◌, List, [], ◌∷◌, ◌++◌, length}
use Rattle.isl_meter.specs.Gauge.{Gauge}
use Rattle.isl_piece.specs.declared.row.Row.{Row}
use Rattle.isl_piece.specs.Row.{HoldsRow, IsRowWithin, IsWellFormed}
use Rattle.isl_piece.specs.System.{HoldRows}
use Rattle.isl_frame.specs.Frame.{columns_at}
use Rattle.isl_frame.specs.Needed.{AreRowsOver}
use Rattle.isl_nest.specs.Places.{Stands}
use Rattle.isl_nest.specs.declared.place.Place.{Place}

-- the row over so many columns and two more says that the first of these has the lesser number
pub record IsLessRow (columns : ℕ) (row : Row) : Type 0 where
  pub formed : IsWellFormed (columns + 2) row
  pub within : (g : Gauge) → 8 ≤ g.bits → IsRowWithin g row
  pub points : (point : List ℤ) (x y : ℤ) → length point ≡ columns → HoldsRow row (point ++ x ∷ y ∷ []) ↔ (x <ℤ y)

-- the rows over the variables and two columns say that the context holds, the one system at the first of these, and the other at the second
pub record ArePairRows (g : Gauge) (place : Place) (one other rows : List Row) : Type 0 where
  pub over : AreRowsOver g (place.variables + 2) rows
  pub points : (point : List ℤ) (x y : ℤ) → length point ≡ place.variables → HoldRows place.frame point
      → HoldRows rows (point ++ x ∷ y ∷ [])
      ↔ (HoldRows place.context point × HoldRows one (columns_at place.frame point ++ x ∷ [])
      × HoldRows other (columns_at place.frame point ++ y ∷ []))

-- behind the place's columns, wherever it stands, numbers at which the one system holds are less than those at which the other does
abbrev pub SystemsPrecede : Place → List Row → List Row → Type 0
SystemsPrecede place one other = (point : List ℤ) (x y : ℤ) → Stands place point → HoldRows one (columns_at place.frame point ++ x ∷ [])
    → HoldRows other (columns_at place.frame point ++ y ∷ []) → x <ℤ y
