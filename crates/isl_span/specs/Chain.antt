-- public: what the last column of systems adds to the affine hull of their points.
use Rattle.std.specs.Prelude.{◌≡◌, ◌⊎◌, ◌↔◌, ◌≤◌, Bool, true, false, ℕ, ◌+◌, ◌-◌, ℤ, pos, ◌+ℤ◌}
use Rattle.std.specs.Prelude.{List, ◌∷◌, ◌++◌, [], All, length, map, replicate, slice_index_or, slice_set, unsigned_abs}
use Rattle.isl_math.specs.Dot.{dot}
use Rattle.isl_meter.specs.Gauge.{Gauge}
use Rattle.isl_piece.specs.declared.row.Row.{Row}
use Rattle.isl_piece.specs.declared.row.RowKind.TheVariants.{Zero, AtLeast}
use Rattle.isl_piece.specs.declared.system.System.{System}
use Rattle.isl_piece.specs.Row.{coef_at, value_at}
use Rattle.isl_piece.specs.System.{HoldRows, HoldsSystem}
use Rattle.isl_ledger.specs.Difference.{IsDifferenceSystem}
use Rattle.isl_elim.specs.Elimination.{HoldsAtAny}
use Rattle.isl_elim.specs.Sample.{IsNowhere}
use Rattle.isl_span.specs.declared.link.Link.{Link}
use Rattle.isl_span.specs.declared.link.Link.TheVariants.{Equation, Free, Unknown}
use Rattle.isl_span.specs.Forms.{IsForm}
use Rattle.isl_span.specs.Independent.{AreIndependent}
use Rattle.isl_span.specs.Points.{IsOver, IsPoint, VanishesOnAll}

-- ---- rows over more columns
-- the row over so many columns, with the coefficient 0 behind its own
abbrev pub padded : ℕ → Row → Row
padded columns r =
    record { kind = r.kind; coefs = r.coefs ++ replicate (columns - length r.coefs) (pos 0); constant = r.constant; k = r.k }

-- ---- one column
-- 1 or -1
abbrev pub IsUnit : ℤ → Type 0
IsUnit z = unsigned_abs z ≡ 1

-- a form with a unit at the last column, which is 0 where the row's form is 0
pub record IsUnitForm (g : Gauge) (last : ℕ) (r new : Row) : Type 0 where
  pub form : IsForm g (last + 1) new
  pub unit : IsUnit (coef_at new last)
  pub zero : (point : List ℤ) → value_at r point ≡ pos 0 → value_at new point ≡ pos 0

-- the row's form is 0 at all points of P
abbrev pub IsZeroOn : (List ℤ → Type 0) → Row → Type 0
IsZeroOn P r = (point : List ℤ) → P point → value_at r point ≡ pos 0

-- an equation with a unit at the last column, which is 0 at all points of P
pub record IsLastEquation (g : Gauge) (last : ℕ) (P : List ℤ → Type 0) (r : Row) : Type 0 where
  pub form : IsForm g (last + 1) r
  pub unit : IsUnit (coef_at r last)
  pub zero : IsZeroOn P r

-- the row gives no such equation
abbrev pub IsNoEquation : ℕ → (List ℤ → Type 0) → Row → Type 0
IsNoEquation last P r = IsUnit (coef_at r last) → ¬ IsZeroOn P r

-- some two points of P differ by 1 at the last column, and nowhere else
abbrev pub IsFreeAtLast : ℕ → (List ℤ → Type 0) → Type 0
IsFreeAtLast last P =
    ¬ IsNowhere (last + 1) (λ point. P point × P (slice_set point last (slice_index_or point last (pos 0) +ℤ pos 1)))

-- an equation or a bound with coefficients 1, -1 and 0 alone
pub record IsSmall (r : Row) : Type 0 where
  pub kind : (r.kind ≡ Zero) ⊎ (r.kind ≡ AtLeast)
  pub coefs : All (λ c. unsigned_abs c ≤ 1) r.coefs

-- difference constraints over so many columns, with a point
pub record IsPlainChain (columns bits : ℕ) (s : System) : Type 0 where
  pub differences : IsDifferenceSystem columns bits s
  pub columns_are : s.columns ≡ columns
  pub some : ¬ IsNowhere columns (HoldsSystem s)

-- what is seen of the last column of systems, of which there is one where anything is seen
abbrev pub IsLinkOf : Gauge → ℕ → List System → Link → Type 0
IsLinkOf g last systems (Equation r) = (length systems ≡ 1) × IsLastEquation g last (IsPoint (last + 1) systems) r
IsLinkOf g last systems Free = (length systems ≡ 1) × IsFreeAtLast last (IsPoint (last + 1) systems)
IsLinkOf g last systems Unknown = Unit {0}

-- what was seen is put behind the rows over so many columns; whether anything was
abbrev pub IsPushed : ℕ → Link → List Row → List Row → Bool → Type 0
IsPushed columns (Equation r) old new seen = (seen ≡ true) × (new ≡ old ++ padded columns r ∷ [])
IsPushed columns Free old new seen = (seen ≡ true) × (new ≡ old)
IsPushed columns Unknown old new seen = (seen ≡ false) × (new ≡ old)

-- ---- columns one after another
-- independent forms that are 0 exactly where each form is 0 that is 0 at all points of P, of which there is one
pub record AreHullRows (g : Gauge) (columns : ℕ) (P : List ℤ → Type 0) (rows : List Row) : Type 0 where
  pub forms : All (IsForm g columns) rows
  pub independent : AreIndependent columns rows
  pub some : ¬ ((point : List ℤ) → ¬ P point)
  pub exact : (point : List ℤ) → HoldRows rows point
      ↔ ((coefs : List ℤ) (constant : ℤ) → VanishesOnAll columns P coefs constant → dot coefs point +ℤ constant ≡ pos 0)

-- with the rows of the hull of what is left over the first columns, these rows are those of the hull of the systems; and where nothing is
-- left, these have no point
pub record IsChainOf (g : Gauge) (columns : ℕ) (systems : List System) (rows : List Row) (first : ℕ) (left : List System) : Type 0 where
  pub few : first ≤ columns
  pub over : All (IsOver g first) left
  pub hull : (rest : List Row) → AreHullRows g first (IsPoint first left) rest
      → AreHullRows g columns (IsPoint columns systems) (rows ++ map (padded columns) rest)
  pub none : IsNowhere first (HoldsAtAny left) → IsNowhere columns (HoldsAtAny systems)
