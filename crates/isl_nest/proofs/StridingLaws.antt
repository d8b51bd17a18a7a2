-- Rows that tell one step, and columns whose own rows do.
use Rattle.std.proofs.Common.{◌≡◌, ◌≢◌, ◌↔◌, inl, inr, refl, sym, ap, ◌∙◌, subst, arith, Bool, true, false, ℕ, zero, suc, ◌+◌, ◌<◌, ◌≤◌}
use Rattle.std.proofs.Common.{ℤ, pos, neg_ℤ, ◌<ℤ◌, List, [], ◌∷◌, ◌++◌, length, get_or, take, Option, Some, IfSome}
use Rattle.std.specs.Prelude.{if◌then◌else◌}
use Rattle.std.specs.List.{All, Contains}
use Rattle.std.specs.Ordering.{int_eq}
use Rattle.std.proofs.lemmas.Bool.Decides.{Decides-int_eq}
use Rattle.std.proofs.lemmas.List.{get_or-take}
use Rattle.std.proofs.lemmas.List.Elements.{All-contains, All-weaker}
use Rattle.isl_math.specs.Divide.{floor_div, floor_mod, IsGcdOf}
use Rattle.isl_math.proofs.DivideLaws.{le_from_Divides, Divides-neg_ℤ, Divides-same, IsGcdOf-floor_mod}
use Rattle.isl_math.proofs.GcdLaws.{IsContentOf-content}
use Rattle.isl_math.proofs.Ring.{linear}
use Rattle.isl_piece.specs.declared.row.RowKind.{RowKind}
use Rattle.isl_piece.specs.declared.row.RowKind.TheVariants.{Divides, NotDivides}
use Rattle.isl_piece.specs.declared.row.Row.{Row}
use Rattle.isl_piece.specs.Normal.{normal_divides, normal_form, normal_row, normal_rows, opposite_row, Always, Kept, Never, Verdict}
use Rattle.isl_piece.specs.Numbers.{divided, opposite, reduced}
use Rattle.isl_piece.specs.Row.{coef_at, HasModulus, HoldsRow, IsWellFormed}
use Rattle.isl_piece.proofs.NormalCases.{common_part, common_part-positive, divided_congruence, lesser_by, normal_divides_by}
use Rattle.isl_piece.proofs.NormalLaws.{normal_rows_all}
use Rattle.isl_piece.proofs.NumberLaws.{divided_one, length-divided, length-reduced, quotient_one}
use Rattle.isl_piece.proofs.PointLaws.{normal_row_holds, HoldsVerdict}
use Rattle.isl_piece.proofs.ShapeLaws.{IfKept}
use Rattle.isl_frame.specs.Frame.{columns_at, IsThroughBehind, NamesForms}
use Rattle.isl_nest.specs.declared.place.Place.{Place}
use Rattle.isl_nest.specs.Item.{counted, named}
use Rattle.isl_nest.specs.Naming.{cut, AreNaming, IsCutOf}
use Rattle.isl_nest.specs.Places.{IsNoEndThrough, Stands}
use Rattle.isl_nest.specs.Stepping.{TellOneStep, TellsStep}
use Rattle.isl_nest.specs.Striding.{AreStriding, IsOwn}
use Rattle.isl_nest.proofs.FixedLaws.{fewer_named}
use Rattle.isl_nest.proofs.SidesLaws.{none_scaled}

-- ---- the normal form of a congruence that tells a step
get_or-reduced : (k : ℤ) (cs : List ℤ) (at : ℕ) → at < length cs → get_or (reduced k cs) at (pos 0) ≡ floor_mod (get_or cs at (pos 0)) k
get_or-reduced k [] at low = absurd (omega (arith, low))
get_or-reduced k (c ∷ cs) zero low = refl
get_or-reduced k (c ∷ cs) (suc at) low = get_or-reduced k cs at (omega (arith, low))

get_or-opposite : (k : ℤ) (cs : List ℤ) (at : ℕ) → at < length cs
    → get_or (opposite k cs) at (pos 0) ≡ floor_mod (neg_ℤ (get_or cs at (pos 0))) k
get_or-opposite k [] at low = absurd (omega (arith, low))
get_or-opposite k (c ∷ cs) zero low = refl
get_or-opposite k (c ∷ cs) (suc at) low = get_or-opposite k cs at (omega (arith, low))

coprime-neg : (c k : ℤ) → IsGcdOf c k (pos 1) → IsGcdOf (neg_ℤ c) k (pos 1)
coprime-neg c k h = record {
  not_negative = h.not_negative;
  first = Divides-neg_ℤ (pos 1) c h.first;
  second = h.second;
  greatest = λ d m n. h.greatest d (Divides-same d (neg_ℤ (neg_ℤ c)) c (twice c) (Divides-neg_ℤ d (neg_ℤ c) m)) n;
}
  where
    twice : (c : ℤ) → neg_ℤ (neg_ℤ c) ≡ c
    twice c = omega (arith, linear)

opposite_tells : (column : ℕ) (r : Row) → column < length r.coefs → pos 0 <ℤ r.k → TellsStep column r → TellsStep column (opposite_row r)
opposite_tells column r low p step = record {
  kind = step.kind;
  coprime = subst (λ z. IsGcdOf z r.k (pos 1)) (sym (get_or-opposite r.k r.coefs column low))
      (IsGcdOf-floor_mod (neg_ℤ (coef_at r column)) r.k (pos 1) p (coprime-neg (coef_at r column) r.k step.coprime));
}

module _ (column : ℕ) (cs : List ℤ) (c k : ℤ) (low : column < length cs) (p : pos 0 <ℤ k)
    (coprime : IsGcdOf (get_or cs column (pos 0)) k (pos 1)) where
  left : IsGcdOf (get_or (reduced k cs) column (pos 0)) k (pos 1)
  left = subst (λ z. IsGcdOf z k (pos 1)) (sym (get_or-reduced k cs column low))
      (IsGcdOf-floor_mod (get_or cs column (pos 0)) k (pos 1) p coprime)

  -- the modulus and the coefficients have no divisor in common
  common_one : common_part cs k ≡ pos 1
  common_one =
      let h = IsContentOf-content (k ∷ reduced k cs) in
      let long = length-reduced k cs in
      let first = h.common 0 (pos 0) (omega arith) in
      let later = h.common (suc column) (pos 0) (omega (arith, low, long)) in
      let few = le_from_Divides (common_part cs k) (pos 1) (omega (arith, linear)) (left.greatest (common_part cs k) later first) in
      let some = common_part-positive cs k p in
      omega (arith, linear, few, some)

  divided_tells : TellsStep column (divided_congruence cs c k)
  divided_tells = record {
    kind = refl;
    coprime =
        let g = common_part cs k in
        subst (λ (xs : List ℤ). IsGcdOf (get_or xs column (pos 0)) (floor_div k g) (pos 1))
        (sym (ap (λ z. divided z (reduced k cs)) common_one ∙ divided_one (reduced k cs)))
        (subst (λ m. IsGcdOf (get_or (reduced k cs) column (pos 0)) m (pos 1)) (sym (ap (floor_div k) common_one ∙ quotient_one k)) left);
  }

  kept_tells : IfKept (TellsStep column) (normal_divides cs c k)
  kept_tells =
      let g = common_part cs k in
      let long : length (divided g (reduced k cs)) ≡ length cs = length-divided g (reduced k cs) ∙ length-reduced k cs in
      let same : floor_div k g ≡ k = ap (floor_div k) common_one ∙ quotient_one k in
      normal_divides_by (IfKept (TellsStep column)) cs c k p (λ n. tt) (λ d e. tt)
      (λ d n. lesser_by (TellsStep column) (divided_congruence cs c k) divided_tells
      (opposite_tells column (divided_congruence cs c k) (omega (arith, low, long)) (subst (λ m. pos 0 <ℤ m) (sym same) p) divided_tells))

normal_tells : (column : ℕ) (r : Row) → column < length r.coefs → HasModulus Divides r.k → TellsStep column r
    → IfKept (TellsStep column) (normal_row r)
normal_tells column r low p step =
    subst (λ kind. IfKept (TellsStep column) (normal_form kind r.coefs r.constant r.k)) (sym step.kind)
    (kept_tells column r.coefs r.constant r.k low p step.coprime)

-- a normal row says what the row does
normal_same : (r : Row) → HasModulus r.kind r.k → IfKept (λ n. (xs : List ℤ) → HoldsRow n xs ↔ HoldsRow r xs) (normal_row r)
normal_same r modulus = by (normal_row r) (λ xs. normal_row_holds r xs modulus)
  where
    by : (v : Verdict) → ((xs : List ℤ) → HoldsVerdict v xs ↔ HoldsRow r xs) → IfKept (λ n. (xs : List ℤ) → HoldsRow n xs ↔ HoldsRow r xs) v
    by Always h = tt
    by Never h = tt
    by (Kept n) h = h

kept_both : (P Q S : Row → Type 0) → ((n : Row) → P n → Q n → S n) → (v : Verdict) → IfKept P v → IfKept Q v → IfKept S v
kept_both P Q S f Always p q = tt
kept_both P Q S f Never p q = tt
kept_both P Q S f (Kept n) p q = f n p q

-- ---- the last column that is named
named_last : (cs : List ℤ) (n : ℕ) → named cs ≡ suc n → get_or cs n (pos 0) ≢ pos 0
named_last [] n e = absurd (omega (arith, e))
named_last (c ∷ cs) n e = by (named cs) (named_last cs) e
  where
    first : (b : Bool) → int_eq c (pos 0) ≡ b → (n : ℕ) → (if b then 0 else 1) ≡ suc n → get_or (c ∷ cs) n (pos 0) ≢ pos 0
    first true t n e = absurd (omega (arith, e))
    first false t zero e = λ z. absurd (let d = (Decides-int_eq c (pos 0)).1 z in cc)
    first false t (suc n) e = absurd (omega (arith, e))

    later : (m : ℕ) → ((k : ℕ) → m ≡ suc k → get_or cs k (pos 0) ≢ pos 0) → (n : ℕ) → n ≡ m → 0 < m → get_or (c ∷ cs) n (pos 0) ≢ pos 0
    later m rest zero f some = absurd (omega (arith, f, some))
    later m rest (suc k) f some = rest k (sym f)

    by : (m : ℕ) → ((k : ℕ) → m ≡ suc k → get_or cs k (pos 0) ≢ pos 0) → counted c m ≡ suc n → get_or (c ∷ cs) n (pos 0) ≢ pos 0
    by zero rest e = first (int_eq c (pos 0)) refl n e
    by (suc m) rest e = later (suc m) rest n (omega (arith, e)) (omega arith)

named_cut : (n : ℕ) (cs : List ℤ) → named cs ≤ n → named (take n cs) ≡ named cs
named_cut zero [] few = refl
named_cut (suc n) [] few = refl
named_cut zero (c ∷ cs) few = omega (arith, few)
named_cut (suc n) (c ∷ cs) few = ap (counted c) (named_cut n cs (fewer_named c (named cs) n few))

-- ---- the own rows of a column
module _ (frame rows own : List Row) (naming : AreNaming (length frame + 1) (length frame + 1) rows own) where
  abbrev Cut : Row → Type 0
  Cut r = IsCutOf (length frame + 1) (length frame + 1) rows r

  cut_own : (r : Row) → (c : Cut r) → IsOwn frame c.0 × IsOwn frame r
  cut_own r c =
      let low = c.3 in
      let high = c.4 in
      let whole : IsOwn frame c.0 = omega (arith, low, high) in
      (whole, ap (λ (s : Row). named s.coefs) c.2 ∙ named_cut (length frame + 1) c.0.coefs high ∙ whole)

  cut_coef : (r : Row) → (c : Cut r) → (at : ℕ) → at < length frame + 1 → coef_at r at ≡ coef_at c.0 at
  cut_coef r c at low = ap (λ (s : Row). coef_at s at) c.2 ∙ get_or-take (length frame + 1) c.0.coefs at (pos 0) low

  pub own_named : All (IsOwn frame) own
  own_named = All-weaker Cut (IsOwn frame) (λ r c. (cut_own r c).1) own naming.each

  pub own_striding : AreStriding frame rows → AreStriding frame own
  own_striding are = record {
    whole = All-weaker Cut (λ r. IsOwn frame r → r.kind ≢ NotDivides)
        (λ r c o e. All-contains (λ s. IsOwn frame s → s.kind ≢ NotDivides) rows c.0 are.whole c.1 (cut_own r c).0
        (sym (ap (λ (s : Row). s.kind) c.2) ∙ e)) own naming.each;
    steps = All-weaker Cut (λ r. IsOwn frame r → r.kind ≡ Divides → TellsStep (length frame) r × NamesForms frame r)
        (λ r c o e.
        let told = All-contains (λ s. IsOwn frame s → s.kind ≡ Divides → TellsStep (length frame) s × NamesForms frame s) rows c.0
        are.steps c.1 (cut_own r c).0 (sym (ap (λ (s : Row). s.kind) c.2) ∙ e) in (
          record {
            kind = e;
            coprime = subst (λ z. IsGcdOf z r.k (pos 1)) (sym (cut_coef r c (length frame) (omega arith)))
                (subst (λ k. IsGcdOf (coef_at c.0 (length frame)) k (pos 1)) (sym (ap (λ (s : Row). s.k) c.2)) told.0.coprime);
          },
          λ at d low some. told.1 at d low (λ z. some (cut_coef r c at (omega (arith, low)) ∙ z)),
        )) own naming.each;
    one = λ r s in_r in_s own_r own_s e f.
        let c = All-contains Cut own r naming.each in_r in
        let d = All-contains Cut own s naming.each in_s in
        let same = are.one c.0 d.0 c.1 d.1 (cut_own r c).0 (cut_own s d).0 (sym (ap (λ (t : Row). t.kind) c.2) ∙ e)
        (sym (ap (λ (t : Row). t.kind) d.2) ∙ f) in
        c.2 ∙ ap (cut (length frame + 1)) same ∙ sym d.2;
  }

-- ---- through the frame of a place
module _ (place : Place) (own : List Row) (are_own : All (IsOwn place.frame) own) (striding : AreStriding place.frame own) where
  -- it tells a step, and says what a congruence of the own rows does
  record IsStepOfOwn (n : Row) : Type 0 where
    row : Row
    here : Contains own row
    kind : row.kind ≡ Divides
    step : TellsStep place.variables n
    points : (point : List ℤ) (x : ℤ) → Stands place point
        → HoldsRow n (point ++ x ∷ []) ↔ HoldsRow row (columns_at place.frame point ++ x ∷ [])

  through_tells : (t : Row) → (c : IsNoEndThrough place own t) → (c.0.kind ≡ Divides) × TellsStep place.variables t
  through_tells t c = elim c.3 [
    | inl none ↦ absurd (none_scaled is.scale (coef_at row (length place.frame)) is.positive
        (named_last row.coefs (length place.frame) (omega (arith, own_row))) (sym is.last ∙ none))
    | inr congruence ↦ elim congruence [
      | inl d ↦ (let kind : row.kind ≡ Divides = sym is.kind ∙ d in
          let told = All-contains (λ r. IsOwn place.frame r → r.kind ≡ Divides → TellsStep (length place.frame) r × NamesForms place.frame r)
          own row striding.steps c.1 own_row kind in
          let same = is.forms told.1 in (
            kind,
            record {
              kind = d;
              coprime = subst (λ z. IsGcdOf z t.k (pos 1)) (sym same.1)
                  (subst (λ k. IsGcdOf (coef_at row (length place.frame)) k (pos 1)) (sym same.0) told.0.coprime);
            },
          ))
      | inr n ↦ absurd (All-contains (λ r. IsOwn place.frame r → r.kind ≢ NotDivides) own row striding.whole c.1 own_row (sym is.kind ∙ n))
    ]
  ]
    where
      row : Row
      row = c.0

      is : IsThroughBehind place.variables row place.frame t
      is = c.2

      own_row : IsOwn place.frame row
      own_row = All-contains (IsOwn place.frame) own row are_own c.1

  abbrev Comes : Row → Type 0
  Comes t = IsNoEndThrough place own t × IsWellFormed (place.variables + 1) t

  normal_is : (t : Row) → Comes t → IfKept IsStepOfOwn (normal_row t)
  normal_is t (c, formed) =
      let told = through_tells t c in
      let wide = formed.width in
      kept_both (TellsStep place.variables) (λ n. (xs : List ℤ) → HoldsRow n xs ↔ HoldsRow t xs) IsStepOfOwn
      (λ n step same. record {
        row = c.0;
        here = c.1;
        kind = told.0;
        step = step;
        points = λ point x stands.
            let a = same (point ++ x ∷ []) in
            let b = c.2.points point x stands.width stands.whole in
            ((λ h. b.0 (a.0 h)), (λ h. a.1 (b.1 h)));
      }) (normal_row t)
      (normal_tells place.variables t (omega (arith, wide)) (subst (λ (kind : RowKind). HasModulus kind t.k) told.1.kind formed.modulus) told.1)
      (normal_same t formed.modulus)

  pub one_step : (ends others : List Row) → normal_rows ends ≡ Some others → All (IsNoEndThrough place own) ends
      → All (IsWellFormed (place.variables + 1)) ends → (point : List ℤ) (x : ℤ) → Stands place point
      → TellOneStep place.variables others (point ++ x ∷ [])
  one_step ends others e from formed point x stands = record {
    each = All-weaker IsStepOfOwn (TellsStep place.variables) (λ n s. s.step) others all;
    agree = λ i d low j c high h.
        let a = all i d low in
        let b = all j c high in
        let same = striding.one a.row b.row a.here b.here (All-contains (IsOwn place.frame) own a.row are_own a.here)
        (All-contains (IsOwn place.frame) own b.row are_own b.here) a.kind b.kind in
        (b.points point x stands).1
        (subst (λ (r : Row). HoldsRow r (columns_at place.frame point ++ x ∷ [])) same ((a.points point x stands).0 h));
  }
    where
      all : All IsStepOfOwn others
      all = subst (λ (o : Option (List Row)). IfSome o (All IsStepOfOwn)) e
          (normal_rows_all Comes IsStepOfOwn normal_is ends (λ k d l. (from k d l, formed k d l)))
