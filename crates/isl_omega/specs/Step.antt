-- public: the congruence step: the sides of a column with its congruences as a substitution.
use Rattle.std.specs.Prelude.{◌≡◌, ◌↔◌, ℕ, ◌-◌, ◌≤◌, ℤ, pos, neg_ℤ, ◌*ℤ◌, ◌≤ℤ◌, ◌<ℤ◌, List, [], ◌∷◌, ◌++◌, All, length, map, replicate, slice_set}
use Rattle.std.specs.List.{AllZip}
use Rattle.isl_meter.specs.Gauge.{Gauge, IsWithin}
use Rattle.isl_piece.specs.declared.row.RowKind.TheVariants as kind
use Rattle.isl_piece.specs.declared.row.Row.{Row}
use Rattle.isl_piece.specs.Row.{IsRowWithin, coef_at}
use Rattle.isl_omega.specs.Congruence.{product_of_divisors, product_of_periods}
use Rattle.isl_omega.specs.Sides.{AreSided, SidesHold, on_side}
use Rattle.isl_omega.specs.Substitution.{substituted, IsMovedBound}
use Rattle.isl_omega.specs.Tighten.{IsLessened}
use Rattle.isl_omega.specs.declared.sides.Side.TheVariants.{NotDivides, Free}
use Rattle.isl_omega.specs.declared.sides.Sides.{Sides}

-- the congruence with the scale for its modulus: where it holds, the progression has numbers
abbrev pub within_scale : Row → ℤ → Row
within_scale one scale = record { kind = one.kind; coefs = one.coefs; constant = one.constant; k = scale }

-- the sides with a progression in the column's place: bounds stay bounds; a row that a modulus must not divide may become free; what the
-- congruences say of the other columns is free
pub record IsSubstitutionOf (g : Gauge) (columns col : ℕ) (one : Row) (others : List Row) (scale : ℤ) (offsets : Row) (old new : Sides) : Type 0 where
  pub lowers : AllZip (IsMovedBound columns col scale offsets) old.lowers new.lowers
  pub lowers_within : All (IsRowWithin g) new.lowers
  pub uppers : AllZip (IsMovedBound columns col scale offsets) old.uppers new.uppers
  pub uppers_within : All (IsRowWithin g) new.uppers
  pub divides : new.divides ≡ []
  pub scale_within : IsWithin g scale
  pub moved_within : All (IsRowWithin g) (map (substituted scale offsets col) old.not_divides)
  pub not_divides : new.not_divides ≡ on_side NotDivides col (map (substituted scale offsets col) old.not_divides)
  pub free : new.free ≡ ((on_side Free col (map (substituted scale offsets col) old.not_divides) ++ others) ++ old.free) ++ within_scale one scale ∷ []

-- the coefficients at the column were k times the old ones before they were divided
pub record HasFactorsUpTo (col : ℕ) (k : ℤ) (old new : Sides) : Type 0 where
  pub lowers : AllZip (λ r s. IsLessened (k *ℤ coef_at r col) (coef_at s col)) old.lowers new.lowers
  pub uppers : AllZip (λ r s. IsLessened (k *ℤ coef_at r col) (coef_at s col)) old.uppers new.uppers

-- some whole number at the column makes both hold, or none does for either
abbrev pub AreEquisatisfiable : ℕ → ℕ → Sides → Sides → Type 0
AreEquisatisfiable columns col old new = (point : List ℤ) → length point ≡ columns - 1 → ((x : ℤ) × SidesHold old col point x) ↔ ((y : ℤ) × SidesHold new col point y)

-- what the step leaves
pub record IsStepOf (g : Gauge) (columns col : ℕ) (old new : Sides) : Type 0 where
  pub sided : AreSided g columns col new
  pub divides : new.divides ≡ []
  pub not_divides : length new.not_divides ≤ length old.not_divides
  pub periods : product_of_periods col new.not_divides ≤ℤ product_of_divisors old.not_divides
  pub same : AreEquisatisfiable columns col old new
  pub k : ℤ
  pub positive : pos 0 <ℤ k
  pub small : k ≤ℤ product_of_divisors old.divides
  pub narrowed : HasFactorsUpTo col k old new

-- the row that says that p divides x - t
abbrev pub residue_row : ℕ → ℕ → ℤ → ℤ → Row
residue_row columns col p t = record { kind = kind.Divides; coefs = slice_set (replicate columns (pos 0)) col (pos 1); constant = neg_ℤ t; k = p }
