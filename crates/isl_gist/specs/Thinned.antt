-- inner: rows of which none is idle at the points of some systems.
use Rattle.std.specs.Prelude.{◌≡◌, ◌≢◌, ◌⊎◌, ℕ, ℤ, List, [], ◌∷◌, ◌++◌, All, length}
use Rattle.isl_meter.specs.Gauge.{Gauge}
use Rattle.isl_piece.specs.declared.row.RowKind.{RowKind}
use Rattle.isl_piece.specs.declared.row.RowKind.TheVariants.{Zero, AtLeast, Divides, NotDivides}
use Rattle.isl_piece.specs.declared.row.Row.{Row}
use Rattle.isl_piece.specs.declared.system.System.{System}
use Rattle.isl_piece.specs.Row.{HoldsRow, IsRowWithin, IsWellFormed}
use Rattle.isl_piece.specs.System.{HoldRows}
use Rattle.isl_elim.specs.Elimination.{HoldsAtAny}
use Rattle.isl_gist.specs.declared.pass.Pass.{Pass}
use Rattle.isl_gist.specs.declared.pass.Pass.TheVariants.{Inequalities, Equations}
use Rattle.isl_gist.specs.Halves.{lower_half, upper_half, AreSomeOf, IsWhatStands}

-- ---- systems without definitions
-- the system of these rows
abbrev pub plain_system : ℕ → List Row → System
plain_system columns rows = record { columns = columns; definitions = []; rows = rows }

-- a row over so many columns, within the limit
pub record IsRowOver (g : Gauge) (columns : ℕ) (r : Row) : Type 0 where
  pub formed : IsWellFormed columns r
  pub within : IsRowWithin g r

-- a system over so many columns, of which it defines none, within the limit
pub record IsPlain (g : Gauge) (width : ℕ) (s : System) : Type 0 where
  pub columns : s.columns ≡ width
  pub definitions : s.definitions ≡ []
  pub rows : All (IsRowOver g width) s.rows

-- some of the systems holds at the point of so many numbers
pub record IsAmong (columns : ℕ) (contexts : List System) (point : List ℤ) : Type 0 where
  pub long : length point ≡ columns
  pub holds : HoldsAtAny contexts point

-- ---- idle rows
-- at the points of P at which the others hold, the row does
pub record IsIdleAt (P : List ℤ → Type 0) (others : List Row) (r : Row) : Type 0 where
  pub holds : (point : List ℤ) → P point → HoldRows others point → HoldsRow r point

-- neither the row nor a half of it is idle beside the others
abbrev pub IsNeededBy : RowKind → (List ℤ → Type 0) → List Row → Row → Type 0
IsNeededBy Zero P others r = (¬ IsIdleAt P (lower_half r ∷ others) (upper_half r)) × (¬ IsIdleAt P (upper_half r ∷ others) (lower_half r))
IsNeededBy AtLeast P others r = ¬ IsIdleAt P others r
IsNeededBy Divides P others r = ¬ IsIdleAt P others r
IsNeededBy NotDivides P others r = ¬ IsIdleAt P others r

abbrev pub IsNeeded : (List ℤ → Type 0) → List Row → Row → Type 0
IsNeeded P others r = IsNeededBy r.kind P others r

-- each row of W is needed beside the others, and those in front
abbrev pub AreNeeded : (Row → Type 0) → (List ℤ → Type 0) → List Row → List Row → Type 0
AreNeeded W P front [] = Unit {0}
AreNeeded W P front (r ∷ rows) = (W r → IsNeeded P (front ++ rows) r) × AreNeeded W P (front ++ r ∷ []) rows

-- ---- passes
-- the rows that are needed before a pass, and behind it: the second one is over equations
abbrev pub IsDone : Pass → Row → Type 0
IsDone Inequalities r = ⊥
IsDone Equations r = r.kind ≢ Zero

abbrev pub WillBeDone : Pass → Row → Type 0
WillBeDone Inequalities r = r.kind ≢ Zero
WillBeDone Equations r = Unit {0}

-- what a pass leaves of one row beside others
pub record IsPart (pass : Pass) (P : List ℤ → Type 0) (others : List Row) (r : Row) (left : List Row) : Type 0 where
  pub stands : IsWhatStands r left
  pub needed : All (λ s. WillBeDone pass s → IsNeeded P others s) left
  pub same : (point : List ℤ) → P point → HoldRows others point → HoldRows left point → HoldsRow r point

-- of the row alone: nothing, where it is idle
abbrev pub IsRest : (List ℤ → Type 0) → List Row → Row → List Row → Type 0
IsRest P others r left = (IsIdleAt P others r × (left ≡ [])) ⊎ ((¬ IsIdleAt P others r) × (left ≡ r ∷ []))

-- what is left of rows: some of them, of which those of W are needed; at the points of P they say the same
pub record AreThinned (W : Row → Type 0) (P : List ℤ → Type 0) (rows left : List Row) : Type 0 where
  pub some : AreSomeOf rows left
  pub needed : AreNeeded W P [] left
  pub same : (point : List ℤ) → P point → HoldRows left point → HoldRows rows point
