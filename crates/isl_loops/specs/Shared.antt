-- inner: one loop for several items. (Bastoul, code generation in the polyhedral model)
use Rattle.std.specs.Prelude.{◌≡◌, ℕ, ◌+◌, ◌-◌, ℤ, pos, List, [], ◌∷◌, ◌++◌, Contains, flat_map, length, slice_index_or}
use Rattle.isl_meter.specs.Gauge.{Gauge}
use Rattle.isl_piece.specs.declared.row.RowKind.TheVariants.{Divides}
use Rattle.isl_piece.specs.declared.row.Row.{Row}
use Rattle.isl_piece.specs.Row.{IsRowWithin, IsWellFormed}
use Rattle.isl_piece.specs.System.{HoldRows}
use Rattle.isl_frame.specs.Frame.{column_at, columns_at}
use Rattle.isl_nest.specs.Around.{turns_at, IsAroundOver}
use Rattle.isl_nest.specs.Places.{Stands}
use Rattle.isl_nest.specs.declared.around.Around.{Around}
use Rattle.isl_nest.specs.declared.item.Item.{Item}
use Rattle.isl_nest.specs.declared.place.Place.{Place}
use Rattle.isl_loops.specs.Together.{SomeBegins}

-- the systems of the items over so many columns and one more
abbrev pub covers_behind : ℕ → ℕ → List Item → List (List Row)
covers_behind params columns items = flat_map (λ item. slice_index_or item.covers.items (columns + 1 - params) []) items

-- each number that begins a point of an item is a turn; what is known inside holds at each turn
pub record IsSharedLoop (g : Gauge) (place : Place) (items : List Item) (around : Around) : Type 0 where
  pub over : IsAroundOver g place.variables around
  pub cover : (point : List ℤ) (x : ℤ) → Stands place point → SomeBegins items (columns_at place.frame point ++ x ∷ [])
      → Contains (turns_at around.head point) x
  pub known : (point : List ℤ) (x : ℤ) → length point ≡ place.variables → Contains (turns_at around.head point) x
      → HoldRows around.inside (point ++ x ∷ [])

-- no number begins a point
abbrev pub IsSharedNothing : Place → List Item → Type 0
IsSharedNothing place items = (point : List ℤ) (x : ℤ) → Stands place point → ¬ SomeBegins items (columns_at place.frame point ++ x ∷ [])

-- the entry is a form over the variables, and the only number that one column behind them can have where the rows hold
pub record IsOnlyForm (g : Gauge) (variables : ℕ) (rows : List Row) (entry : Row) : Type 0 where
  pub formed : IsWellFormed variables entry
  pub within : IsRowWithin g entry
  pub divides : entry.kind ≡ Divides
  pub unit : entry.k ≡ pos 1
  pub only : (point : List ℤ) (x : ℤ) → length point ≡ variables → HoldRows rows (point ++ x ∷ []) → x ≡ column_at point entry
