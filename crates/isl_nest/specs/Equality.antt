-- public: equalities that tell a column. (isl manual, on abstract syntax trees)
use Rattle.std.specs.Prelude.{◌≡◌, ◌≢◌, ◌⊎◌, ℕ, ◌+◌, ◌≤◌, ℤ, pos, List, All, length}
use Rattle.isl_math.specs.Order.{abs_of}
use Rattle.isl_meter.specs.Gauge.{Gauge}
use Rattle.isl_piece.specs.declared.row.RowKind.TheVariants.{Zero}
use Rattle.isl_piece.specs.declared.row.Row.{Row}
use Rattle.isl_piece.specs.Row.{coef_at, HoldsRow, IsRowWithin, IsWellFormed}
use Rattle.isl_piece.specs.System.{HoldRows}
use Rattle.isl_frame.specs.Frame.{NamesForms}
use Rattle.isl_bounds.specs.Bound.{HoldSome}
use Rattle.isl_nest.specs.Item.{ItemView}
use Rattle.isl_nest.specs.Striding.{Asks}
use Rattle.isl_nest.specs.declared.place.Place.{Place}

-- an equality over so many columns and one behind them, which it names
pub record IsEquality (g : Gauge) (columns : ℕ) (r : Row) : Type 0 where
  pub formed : IsWellFormed (columns + 1) r
  pub within : IsRowWithin g r
  pub kind : r.kind ≡ Zero
  pub names : coef_at r columns ≢ pos 0

-- the row holds wherever the own rows and a system do
abbrev pub IsSaidBy : List Row → List (List Row) → Row → Type 0
IsSaidBy own systems r = (front : List ℤ) → HoldRows own front → HoldSome systems front → HoldsRow r front

-- the equality tells the next column behind the frame as a form: its coefficient is 1 or -1, and the columns that it names are forms
abbrev pub TellsForm : List Row → Row → Type 0
TellsForm frame r = (abs_of (coef_at r (length frame)) ≡ pos 1) × NamesForms frame r

-- it tells the next column as a form, or the column is behind the time, or no congruence of a later one names it
abbrev pub MayTell : ItemView → Place → Row → Type 0
MayTell item place r = TellsForm place.frame r
    ⊎ (item.params + item.times ≤ length place.frame)
    ⊎ All (λ later. ¬ Asks (length place.frame) later) item.rows
