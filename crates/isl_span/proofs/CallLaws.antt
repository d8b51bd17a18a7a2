-- What is asked of the last column, from what the calls answered.
use Rattle.std.proofs.Common.{◌≡◌, ◌⊎◌, ◌↔◌, ◌∙◌, inl, inr, refl, sym, ap, subst, arith, ℕ, ◌+◌, ◌≤◌, Bool, IsTrue, true, false, not}
use Rattle.std.proofs.Common.{ℤ, pos, unsigned_abs, List, [], ◌∷◌, length, get_or}
use Rattle.std.specs.List.{All}
use Rattle.std.proofs.lemmas.Bool.{false≢true}
use Rattle.std.proofs.lemmas.List.{get_or_default}
use Rattle.isl_ledger.specs.Difference.{IsDifferenceRow}
use Rattle.isl_ledger.proofs.ComparisonLaws.{coefficient_small}
use Rattle.isl_meter.specs.Gauge.{Gauge}
use Rattle.isl_piece.specs.declared.definition.Definition.{Definition}
use Rattle.isl_piece.specs.declared.row.Row.{Row}
use Rattle.isl_piece.specs.declared.row.RowKind.{RowKind}
use Rattle.isl_piece.specs.declared.row.RowKind.TheVariants.{Zero, AtLeast}
use Rattle.isl_piece.specs.declared.system.System.{System}
use Rattle.isl_piece.specs.Row.{HasModulus, IsWellFormed, coef_at}
use Rattle.isl_span.specs.Chain.{IsLastEquation, IsNoEquation, IsSmall, IsUnit, IsUnitForm, IsZeroOn}
use Rattle.isl_span.specs.Points.{IsOver}
use Rattle.isl_span.proofs.FormLaws.{form_later}

-- ---- rows
pub modulus_one : (columns : ℕ) (r : Row) → (r.kind ≡ Zero) ⊎ (r.kind ≡ AtLeast) → IsWellFormed columns r → r.k ≡ pos 1
modulus_one columns r kind formed = elim kind [
  | inl e ↦ subst (λ (kind : RowKind). HasModulus kind r.k) e formed.modulus
  | inr e ↦ subst (λ (kind : RowKind). HasModulus kind r.k) e formed.modulus
]

pub bound_otherwise : (r : Row) → (r.kind ≡ Zero) ⊎ (r.kind ≡ AtLeast) → ¬ (r.kind ≡ Zero) → r.kind ≡ AtLeast
bound_otherwise r kind other = elim kind [ inl e ↦ absurd (other e) | inr e ↦ e ]

-- a system without definitions has as many columns as are free
pub columns_are : (g : Gauge) (n : ℕ) (s : System) → IsOver g n s → s.definitions ≡ [] → s.columns ≡ n
columns_are g n s over plain =
    let free = over.free in
    let none = ap (λ (ds : List Definition). length ds) plain in
    omega (arith, free, none)

pub rows_formed : (g : Gauge) (n : ℕ) (s : System) → IsOver g n s → s.definitions ≡ [] → All (IsWellFormed n) s.rows
rows_formed g n s over plain = subst (λ (m : ℕ). All (IsWellFormed m) s.rows) (columns_are g n s over plain) over.within.rows

-- ---- what a row gives
module _ (n : ℕ) (P : List ℤ → Type 0) (r : Row) where
  pub no_unit : (b : Bool) (z : ℤ) → IsTrue b ↔ IsUnit z → z ≡ coef_at r n → b ≡ false → IsNoEquation n P r
  no_unit b z is at off unit zero = false≢true (sym off ∙ is.1 (subst IsUnit (sym at) unit))

  pub not_zero_on : (b : Bool) → IsTrue b ↔ IsZeroOn P r → b ≡ false → IsNoEquation n P r
  not_zero_on b is off unit zero = false≢true (sym off ∙ is.1 zero)

  pub last_equation : (g h : Gauge) (form : Row) → h.bits ≡ g.bits → IsUnitForm h n r form → IsZeroOn P r → IsLastEquation g n P form
  last_equation g h form same made zero = record {
    form = form_later h g (n + 1) form (sym same) made.form;
    unit = made.unit;
    zero = λ p at. made.zero p (zero p at);
  }

-- ---- answers the other way round
pub not_empty : (A B : Type 0) (b : Bool) → IsTrue b ↔ A → (¬ A) ↔ B → IsTrue (not b) ↔ B
not_empty A B true is other = (λ t. absurd (false≢true t), λ y. absurd (other.1 y (is.0 refl)))
not_empty A B false is other = (λ t. other.0 (λ a. false≢true (is.1 a)), λ y. refl)

-- ---- one system of difference constraints
pub alone_at : (l : List System) (s : System) → length l ≡ 1 → s ≡ get_or l 0 s → l ≡ s ∷ []
alone_at [] s e at = absurd (omega (arith, e))
alone_at (t ∷ []) s e at = ap (λ (o : System). o ∷ []) (sym at)
alone_at (t ∷ u ∷ l) s e at = absurd (omega (arith, e))

pub are_small_all : (bits : ℕ) (rows : List Row) → All (IsDifferenceRow bits) rows → All IsSmall rows
are_small_all bits rows compare k d low =
    let r = get_or rows k d in
    let c = compare k d low in
    record {
      kind = c.kind;
      coefs = λ i z inside. subst (λ (x : ℤ). unsigned_abs x ≤ 1) (get_or_default r.coefs i (pos 0) z inside)
          (coefficient_small r.coefs c.first c.second i c.compares inside);
    }
