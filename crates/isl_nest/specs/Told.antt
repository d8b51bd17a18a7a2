-- public: a column that an equality tells. (isl manual, on abstract syntax trees)
use Rattle.std.specs.Prelude.{◌≡◌, ◌↔◌, ℤ, pos, List, [], ◌∷◌, ◌++◌}
use Rattle.isl_meter.specs.Gauge.{Gauge}
use Rattle.isl_piece.specs.declared.row.Row.{Row}
use Rattle.isl_piece.specs.Row.{HoldsRow, IsRowWithin}
use Rattle.isl_piece.specs.System.{HoldRows}
use Rattle.isl_frame.specs.Frame.{column_at, columns_at, IsFrame}
use Rattle.isl_nest.specs.declared.place.Place.{Place}
use Rattle.isl_nest.specs.declared.told.Told.{Told}
use Rattle.isl_nest.specs.Equality.{TellsForm}
use Rattle.isl_nest.specs.Places.{AreGuards, Stands}

-- The equality says that the next column is the entry's quotient, and whole. The rows say that it is whole, and that the own rows
-- hold there. It is a form where the equality tells it as one.
pub record IsTold (g : Gauge) (place : Place) (equality : Row) (own : List Row) (told : Told) : Type 0 where
  pub framed : IsFrame place.variables (place.frame ++ told.entry ∷ [])
  pub within : IsRowWithin g told.entry
  pub form : TellsForm place.frame equality → told.entry.k ≡ pos 1
  pub guards : AreGuards g place.variables told.rows
  pub solved : (point : List ℤ) (x : ℤ) → Stands place point
      → HoldsRow equality (columns_at place.frame point ++ x ∷ []) ↔ (HoldsRow told.entry point × (x ≡ column_at point told.entry))
  pub rows : (point : List ℤ) → Stands place point
      → HoldRows told.rows point
      ↔ (HoldsRow told.entry point × HoldRows own (columns_at place.frame point ++ column_at point told.entry ∷ []))

-- nowhere do the equality and the own rows hold
abbrev pub IsUntold : Place → Row → List Row → Type 0
IsUntold place equality own = (point : List ℤ) (x : ℤ) → Stands place point → HoldsRow equality (columns_at place.frame point ++ x ∷ [])
    → ¬ HoldRows own (columns_at place.frame point ++ x ∷ [])
