-- inner: systems with one column more, for the quotient of a congruence. (Feautrier, on quasi-affine forms; isl manual, integer divisions)
use Rattle.std.specs.Prelude.{◌≡◌, ◌≢◌, ◌↔◌, ◌<◌, ◌≤◌, ◌+◌, ◌<ℤ◌, ◌+ℤ◌, ◌*ℤ◌, ℕ, ℤ, pos, neg_ℤ, Bool, true, false, List, [], All, length}
use Rattle.std.specs.List.{AllZip, insert}
use Rattle.isl_math.specs.Divide.{floor_div}
use Rattle.isl_meter.specs.Gauge.{Gauge, IsWithin}
use Rattle.isl_piece.specs.declared.row.Row.{Row}
use Rattle.isl_piece.specs.declared.row.RowKind.TheVariants.{Divides}
use Rattle.isl_piece.specs.declared.system.System.{System}
use Rattle.isl_piece.specs.Row.{coef_at, value_at, HoldsRow, IsRowWithin, IsWellFormed}
use Rattle.isl_piece.specs.System.{HoldRows, HoldsSystem, IsSystemWithin}
use Rattle.isl_pip.specs.Levels.{ArePlainOver}

-- a congruence of which the column is the last one, with a coefficient below 0
pub record EndsAt (column : ℕ) (r : Row) : Type 0 where
  pub kind : r.kind ≡ Divides
  pub falls : coef_at r column <ℤ pos 0
  pub last : (i : ℕ) → column < i → coef_at r i ≡ pos 0

pub record IsAnchor (g : Gauge) (columns column : ℕ) (r : Row) : Type 0 where
  pub ends : EndsAt column r
  pub formed : IsWellFormed columns r
  pub within : IsRowWithin g r
  pub inside : column < columns

-- the number is the quotient of the negated form and the modulus, rounded down; or the form is as many times the modulus, negated
abbrev pub IsLink : Bool → Row → List ℤ → ℤ → Type 0
IsLink false r point z = z ≡ floor_div (neg_ℤ (value_at r point)) r.k
IsLink true r point z = value_at r point +ℤ r.k *ℤ z ≡ pos 0

-- rows with one column more that say so
pub record HaveLink (g : Gauge) (column : ℕ) (r : Row) (is_exact : Bool) (rows : List Row) : Type 0 where
  pub formed : All (IsWellFormed (length r.coefs + 1)) rows
  pub within : All (IsRowWithin g) rows
  pub points : (point : List ℤ) (z : ℤ) → length point ≡ length r.coefs → HoldRows rows (insert point column z) ↔ IsLink is_exact r point z

-- all rows but this one hold
abbrev pub OthersHold : Row → List Row → List ℤ → Type 0
OthersHold r rows point = All (λ s. s ≢ r → HoldsRow s point) rows

-- these were put behind others, with one column more
pub record AreMoved (column : ℕ) (r : Row) (rows old new : List Row) : Type 0 where
  pub formed : All (IsWellFormed (length r.coefs + 1)) old → All (IsWellFormed (length r.coefs + 1)) new
  pub within : (g : Gauge) → IsWithin g (pos 0) → All (IsRowWithin g) rows → All (IsRowWithin g) old → All (IsRowWithin g) new
  pub points : (point : List ℤ) (z : ℤ) → length point ≡ length r.coefs
      → HoldRows new (insert point column z) ↔ (HoldRows old (insert point column z) × OthersHold r rows point)

-- the system with one column more, whose number is the quotient
pub record IsLiftedSystem (g : Gauge) (count column : ℕ) (r : Row) (s made : System) : Type 0 where
  pub within : IsSystemWithin g made
  pub plain : made.definitions ≡ []
  pub columns : made.columns ≡ count + 1
  pub points : (point : List ℤ) (z : ℤ) → length point ≡ count
      → HoldsSystem made (insert point column z) ↔ (HoldsSystem s point × IsLink false r point z)

pub record AreLiftedSystems (g : Gauge) (columns column : ℕ) (r : Row) (systems made : List System) : Type 0 where
  pub plain : ArePlainOver g (columns + 1) made
  pub each : AllZip (IsLiftedSystem g columns column r) systems made
