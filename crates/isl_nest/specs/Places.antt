-- public: places whose frame and context are over the variables in scope.
use Rattle.std.specs.Prelude.{◌≡◌, ◌↔◌, ℕ, ◌+◌, ◌<◌, ◌≤◌, ℤ, List, [], ◌∷◌, ◌++◌, All, Contains, length}
use Rattle.isl_meter.specs.Gauge.{Gauge}
use Rattle.isl_piece.specs.declared.row.Row.{Row}
use Rattle.isl_piece.specs.Row.{IsRowWithin}
use Rattle.isl_piece.specs.Normal.{normal_row, Kept}
use Rattle.isl_piece.specs.System.{HoldRows}
use Rattle.isl_frame.specs.Frame.{columns_at, IsFrame, IsThroughBehind}
use Rattle.isl_frame.specs.Needed.{AreRowsOver}
use Rattle.isl_bounds.specs.Bound.{IsEnd}
use Rattle.isl_bounds.specs.Ends.{AreEnded, IsNoEnd}
use Rattle.isl_bounds.specs.declared.ends.Ends.{Ends}
use Rattle.isl_bounds.specs.declared.side.Side.TheVariants.{Low, High}
use Rattle.isl_nest.specs.declared.place.Place.{Place}

-- the frame and the context are over the variables, with their numbers within the limit, and there are no more variables than columns
pub record IsPlace (g : Gauge) (place : Place) : Type 0 where
  pub frame : IsFrame place.variables place.frame
  pub within : All (IsRowWithin g) place.frame
  pub context : AreRowsOver g place.variables place.context
  pub few : place.variables ≤ length place.frame

-- the columns are whole at numbers of the variables, and the context holds
pub record Stands (place : Place) (point : List ℤ) : Type 0 where
  pub width : length point ≡ place.variables
  pub context : HoldRows place.context point
  pub whole : HoldRows place.frame point

-- normal rows over so many variables
pub record AreGuards (g : Gauge) (variables : ℕ) (rows : List Row) : Type 0 where
  pub over : AreRowsOver g variables rows
  pub normal : All (λ r. normal_row r ≡ Kept r) rows

-- the row says over the variables and one more what one of the rows says over the columns and the next one, and does not bound that one
abbrev pub IsNoEndThrough : Place → List Row → Row → Type 0
IsNoEndThrough place rows made =
    (row : Row) × Contains rows row × IsThroughBehind place.variables row place.frame made × IsNoEnd place.variables made

-- The rows over the columns and the next one, over the variables and one more, taken apart: where the columns are whole they say the same,
-- and they bound the column on a side where a row does.
pub record AreEndsThrough (g : Gauge) (place : Place) (rows : List Row) (ends : Ends) : Type 0 where
  pub low : All (IsEnd g place.variables Low) ends.low
  pub high : All (IsEnd g place.variables High) ends.high
  pub others : AreRowsOver g (place.variables + 1) ends.others
  pub from : All (IsNoEndThrough place rows) ends.others
  pub points : (point : List ℤ) (x : ℤ) → Stands place point
      → HoldRows rows (columns_at place.frame point ++ x ∷ [])
      ↔ (HoldRows ends.low (point ++ x ∷ []) × HoldRows ends.high (point ++ x ∷ []) × HoldRows ends.others (point ++ x ∷ []))
  pub some : AreEnded (length place.frame) rows → (0 < length ends.low) × (0 < length ends.high)
