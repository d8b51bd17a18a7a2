-- Rows taken apart.
use Rattle.std.proofs.Common.{◌≡◌, ◌≢◌, ◌↔◌, ◌⊎◌, inl, inr, refl, sym, ap, ◌∙◌, subst, arith, ℕ, zero, suc, ◌+◌, ◌<◌, length, length-append}
use Rattle.std.proofs.Common.{ℤ, pos, negsuc, neg_ℤ, ◌+ℤ◌, ◌*ℤ◌, ◌<ℤ◌, ◌≤ℤ◌, List, [], ◌∷◌, ◌++◌}
use Rattle.std.specs.Prelude.{OnOk, Result, Ok, Err}
use Rattle.std.specs.List.{All, Any, Contains}
use Rattle.std.proofs.lemmas.List.{append-nil, get_or-map, length-map}
use Rattle.std.proofs.lemmas.List.Elements.{All-append, All-cons, All-head, All-nil, All-weaker}
use Rattle.std.proofs.lemmas.List.Elements.{Contains-append_left, Contains-push}
use Rattle.isl_math.specs.Dot.{dot, scaled}
use Rattle.isl_math.specs.Order.{sign_of}
use Rattle.isl_math.proofs.DotLaws.{dot-scaled}
use Rattle.isl_math.proofs.ListLaws.{All-parts, Any-one, Any-parts}
use Rattle.isl_math.proofs.OrderLaws.{abs_positive, sign-*ℤ}
use Rattle.isl_math.proofs.Ring.{expand, linear}
use Rattle.isl_meter.specs.Gauge.{Gauge}
use Rattle.isl_piece.specs.declared.row.RowKind.{RowKind}
use Rattle.isl_piece.specs.declared.row.RowKind.TheVariants.{Zero, AtLeast, Divides, NotDivides}
use Rattle.isl_piece.specs.declared.row.Row.{Row}
use Rattle.isl_piece.specs.Row.{coef_at, value_at, HasModulus, HoldsRow, HoldsValue, IsRowWithin, IsWellFormed}
use Rattle.isl_piece.specs.System.{HoldRows}
use Rattle.isl_bounds.specs.Bound.{IsEnd}
use Rattle.isl_bounds.specs.Directed.{directed}
use Rattle.isl_bounds.specs.Ends.{AreEndsOf, IsEndAt, IsNoEnd}
use Rattle.isl_bounds.specs.Side.{toward}
use Rattle.isl_bounds.specs.declared.ends.Ends.{Ends}
use Rattle.isl_bounds.specs.declared.side.Side.{Side}
use Rattle.isl_bounds.specs.declared.side.Side.TheVariants.{Low, High}

-- ---- forms with a sign
directed_value : (by : ℤ) (r : Row) (point : List ℤ) → value_at (directed by r) point ≡ sign_of by *ℤ value_at r point
directed_value by r point =
    step (sign_of by) (dot r.coefs point) r.constant (dot (scaled (sign_of by) r.coefs) point) (dot-scaled (sign_of by) r.coefs point)
  where
    step : (s d c w : ℤ) → w ≡ s *ℤ d → w +ℤ s *ℤ c ≡ s *ℤ (d +ℤ c)
    step s d c w e = rw e (simp expand (omega (arith, linear)))

directed_says : (by : ℤ) (r : Row) (point : List ℤ) → HoldsRow (directed by r) point ↔ (pos 0 ≤ℤ (sign_of by *ℤ value_at r point))
directed_says by r point = rw (directed_value by r point) ((λ h. h), (λ h. h))

-- the two halves of an equality
halves_tell : (kind : RowKind) (k c z : ℤ) → kind ≡ Zero → c ≢ pos 0
    → HoldsValue kind k z ↔ ((pos 0 ≤ℤ (sign_of c *ℤ z)) × (pos 0 ≤ℤ (sign_of (neg_ℤ c) *ℤ z)))
halves_tell kind k c z e some = rw e (by c some)
  where
    by : (c : ℤ) → c ≢ pos 0 → (z ≡ pos 0) ↔ ((pos 0 ≤ℤ (sign_of c *ℤ z)) × (pos 0 ≤ℤ (sign_of (neg_ℤ c) *ℤ z)))
    by (pos zero) some = absurd (some refl)
    by (pos (suc m)) some = (
      (λ h. (omega (arith, linear, h), omega (arith, linear, h))),
      (λ h. let a = h.0 in let b = h.1 in omega (arith, linear, a, b)),
    )
    by (negsuc m) some = (
      (λ h. (omega (arith, linear, h), omega (arith, linear, h))),
      (λ h. let a = h.0 in let b = h.1 in omega (arith, linear, a, b)),
    )

low_toward : (c : ℤ) → c ≢ pos 0 → pos 0 <ℤ toward Low (sign_of c *ℤ c)
low_toward c some = rw (sign-*ℤ c) (abs_positive c some)

high_toward : (c : ℤ) → c ≢ pos 0 → pos 0 <ℤ toward High (sign_of (neg_ℤ c) *ℤ c)
high_toward (pos zero) some = absurd (some refl)
high_toward (pos (suc m)) some = omega (arith, linear)
high_toward (negsuc m) some = omega (arith, linear)

directed_end : (g : Gauge) (variables : ℕ) (side : Side) (by : ℤ) (r : Row) → IsWellFormed (variables + 1) r → r.k ≡ pos 1
    → IsRowWithin g (directed by r) → pos 0 <ℤ toward side (sign_of by *ℤ coef_at r variables) → IsEnd g variables side (directed by r)
directed_end g variables side by r formed plain within positive = record {
  formed = record { width = length-map r.coefs (λ c. sign_of by *ℤ c) ∙ formed.width; modulus = plain };
  within = within;
  kind = refl;
  toward =
      let wide = formed.width in
      subst (λ c. pos 0 <ℤ toward side c)
      (sym (get_or-map (λ c. sign_of by *ℤ c) r.coefs variables (pos 0) (pos 0) (omega (arith, wide)))) positive;
}

-- ---- one row more
module _ (g : Gauge) (variables : ℕ) (rows : List Row) (row : Row) (old : Ends) (is : AreEndsOf g variables rows old) where
  abbrev Whose : Row → Type 0
  Whose r = Contains (rows ++ row ∷ []) r × IsNoEnd variables r

  module _ (low high others : List Row) (lows : All (IsEnd g variables Low) low) (highs : All (IsEnd g variables High) high)
      (none : All (λ r. (r ≡ row) × IsNoEnd variables r) others)
      (same : (point : List ℤ) → HoldsRow row point ↔ (HoldRows low point × HoldRows high point × HoldRows others point))
      (some_low : IsEndAt Low variables row → 0 < length low) (some_high : IsEndAt High variables row → 0 < length high) where
    some_more : (side : Side) (was now more : List Row) → now ≡ was ++ more → (Any (IsEndAt side variables) rows → 0 < length was)
        → (IsEndAt side variables row → 0 < length more) → Any (IsEndAt side variables) (rows ++ row ∷ []) → 0 < length now
    some_more side was now more e before here any =
        let long = ap length e ∙ length-append was more in
        elim (Any-parts (IsEndAt side variables) rows (row ∷ []) any) [
          | inl early ↦ let some = before early in omega (arith, long, some)
          | inr late ↦ let some = here (Any-one (IsEndAt side variables) row late) in omega (arith, long, some)
        ]

    pub ends_more : (new : Ends) → new.low ≡ old.low ++ low → new.high ≡ old.high ++ high → new.others ≡ old.others ++ others
        → AreEndsOf g variables (rows ++ row ∷ []) new
    ends_more new e f h = record {
      low = rw e (All-append (IsEnd g variables Low) old.low low is.low lows);
      high = rw f (All-append (IsEnd g variables High) old.high high is.high highs);
      others = rw h (All-append Whose old.others others
          (All-weaker (λ r. Contains rows r × IsNoEnd variables r) Whose
          (λ r p. (Contains-append_left rows (row ∷ []) r p.0, p.1)) old.others is.others)
          (All-weaker (λ r. (r ≡ row) × IsNoEnd variables r) Whose
          (λ r p. (subst (Contains (rows ++ row ∷ [])) (sym p.0) (Contains-push rows row), p.1)) others none));
      points = λ point.
          let H : Row → Type 0 = λ r. HoldsRow r point in
          let first = is.points point in
          let one = same point in
          rw (e, f, h) (
            (λ all.
                let parts = All-parts H rows (row ∷ []) all in
                let early = first.0 parts.0 in
                let late = one.0 (All-head H row [] parts.1) in (
                  All-append H old.low low early.0 late.0,
                  All-append H old.high high early.1 late.1,
                  All-append H old.others others early.2 late.2,
                )),
            (λ t.
                let a = All-parts H old.low low t.0 in
                let b = All-parts H old.high high t.1 in
                let d = All-parts H old.others others t.2 in
                All-append H rows (row ∷ []) (first.1 (a.0, b.0, d.0)) (All-cons H row [] (one.1 (a.1, b.1, d.1)) (All-nil H))),
          );
      some_low = some_more Low old.low new.low low e is.some_low some_low;
      some_high = some_more High old.high new.high high f is.some_high some_high;
    }

  alone : (point : List ℤ) → HoldsRow row point ↔ HoldRows (row ∷ []) point
  alone point =
      let H : Row → Type 0 = λ r. HoldsRow r point in
      ((λ h. All-cons H row [] h (All-nil H)), (λ h. All-head H row [] h))

  nothing : (point : List ℤ) → HoldRows [] point
  nothing point = All-nil (λ r. HoldsRow r point)

  -- an inequality bounds the column from one side
  not_both : AtLeast ≢ Zero
  not_both e = cc

  one_sided : (c : ℤ) → row.kind ≡ AtLeast → pos 0 <ℤ toward Low c
      → ¬ (((row.kind ≡ Zero) × (c ≢ pos 0)) ⊎ ((row.kind ≡ AtLeast) × (pos 0 <ℤ toward High c)))
  one_sided c kind above (inl h) = not_both (sym kind ∙ h.0)
  one_sided c kind above (inr h) = let below = h.1 in omega (arith, linear, above, below)

  other_sided : (c : ℤ) → row.kind ≡ AtLeast → pos 0 <ℤ toward High c
      → ¬ (((row.kind ≡ Zero) × (c ≢ pos 0)) ⊎ ((row.kind ≡ AtLeast) × (pos 0 <ℤ toward Low c)))
  other_sided c kind below (inl h) = not_both (sym kind ∙ h.0)
  other_sided c kind below (inr h) = let above = h.1 in omega (arith, linear, above, below)

  no_sided : (side : Side) → ¬ (pos 0 <ℤ toward side (pos 0)) → IsNoEnd variables row → ¬ IsEndAt side variables row
  no_sided side none (inl without) (inl h) = h.1 without
  no_sided side none (inl without) (inr h) = none (subst (λ c. pos 0 <ℤ toward side c) without h.1)
  no_sided side none (inr (inl kind)) (inl h) = (let e : Divides ≡ Zero = sym kind ∙ h.0 in cc)
  no_sided side none (inr (inl kind)) (inr h) = (let e : Divides ≡ AtLeast = sym kind ∙ h.0 in cc)
  no_sided side none (inr (inr kind)) (inl h) = (let e : NotDivides ≡ Zero = sym kind ∙ h.0 in cc)
  no_sided side none (inr (inr kind)) (inr h) = (let e : NotDivides ≡ AtLeast = sym kind ∙ h.0 in cc)

  same_end : (new : Ends) (list : List Row) → list ≡ list ++ []
  same_end new list = sym (append-nil list)

  pub ends_low : IsEnd g variables Low row → (new : Ends) → new.low ≡ old.low ++ row ∷ [] → new.high ≡ old.high → new.others ≡ old.others
      → AreEndsOf g variables (rows ++ row ∷ []) new
  ends_low end new e f h =
      ends_more (row ∷ []) [] [] (All-cons (IsEnd g variables Low) row [] end (All-nil (IsEnd g variables Low))) (All-nil
      (IsEnd g variables High))
      (All-nil (λ r. (r ≡ row) × IsNoEnd variables r))
      (λ point. let a = alone point in ((λ p. (a.0 p, nothing point, nothing point)), (λ t. a.1 t.0)))
      (λ h. omega arith) (λ h. absurd (one_sided (coef_at row variables) end.kind end.toward h))
      new e (f ∙ same_end new old.high) (h ∙ same_end new old.others)

  pub ends_high : IsEnd g variables High row → (new : Ends) → new.low ≡ old.low → new.high ≡ old.high ++ row ∷ [] → new.others ≡ old.others
      → AreEndsOf g variables (rows ++ row ∷ []) new
  ends_high end new e f h =
      ends_more [] (row ∷ []) [] (All-nil (IsEnd g variables Low)) (All-cons (IsEnd g variables High) row [] end (All-nil
      (IsEnd g variables High)))
      (All-nil (λ r. (r ≡ row) × IsNoEnd variables r))
      (λ point. let a = alone point in ((λ p. (nothing point, a.0 p, nothing point)), (λ t. a.1 t.1)))
      (λ h. absurd (other_sided (coef_at row variables) end.kind end.toward h)) (λ h. omega arith)
      new (e ∙ same_end new old.low) f (h ∙ same_end new old.others)

  pub ends_other : IsNoEnd variables row → (new : Ends) → new.low ≡ old.low → new.high ≡ old.high → new.others ≡ old.others ++ row ∷ []
      → AreEndsOf g variables (rows ++ row ∷ []) new
  ends_other end new e f h =
      ends_more [] [] (row ∷ []) (All-nil (IsEnd g variables Low)) (All-nil (IsEnd g variables High))
      (All-cons (λ r. (r ≡ row) × IsNoEnd variables r) row [] (refl, end) (All-nil (λ r. (r ≡ row) × IsNoEnd variables r)))
      (λ point. let a = alone point in ((λ p. (nothing point, nothing point, a.0 p)), (λ t. a.1 t.2)))
      (λ h. absurd (no_sided Low (omega (arith, linear)) end h)) (λ h. absurd (no_sided High (omega (arith, linear)) end h))
      new (e ∙ same_end new old.low) (f ∙ same_end new old.high) h

  pub ends_both : (c : ℤ) → c ≡ coef_at row variables → IsWellFormed (variables + 1) row → row.kind ≡ Zero → coef_at row variables ≢ pos 0
      → IsRowWithin g (directed c row) → IsRowWithin g (directed (neg_ℤ c) row) → (new : Ends)
      → new ≡ record { low = old.low ++ directed c row ∷ []; high = old.high ++ directed (neg_ℤ c) row ∷ []; others = old.others }
      → AreEndsOf g variables (rows ++ row ∷ []) new
  ends_both c last formed zero_kind some low_within high_within new made =
      let plain : row.k ≡ pos 1 = subst (λ (kind : RowKind). HasModulus kind row.k) zero_kind formed.modulus in
      let named : c ≢ pos 0 = λ e. some (sym last ∙ e) in
      let low = directed c row in
      let high = directed (neg_ℤ c) row in
      let first : IsEnd g variables Low low = directed_end g variables Low c row formed plain low_within
      (subst (λ d. pos 0 <ℤ toward Low (sign_of c *ℤ d)) last (low_toward c named)) in
      let second : IsEnd g variables High high = directed_end g variables High (neg_ℤ c) row formed plain high_within
      (subst (λ d. pos 0 <ℤ toward High (sign_of (neg_ℤ c) *ℤ d)) last (high_toward c named)) in
      ends_more (low ∷ []) (high ∷ []) [] (All-cons (IsEnd g variables Low) low [] first (All-nil (IsEnd g variables Low)))
      (All-cons (IsEnd g variables High) high [] second (All-nil (IsEnd g variables High)))
      (All-nil (λ r. (r ≡ row) × IsNoEnd variables r))
      (λ point.
      let H : Row → Type 0 = λ r. HoldsRow r point in
      let told = halves_tell row.kind row.k c (value_at row point) zero_kind named in
      let one = directed_says c row point in
      let other = directed_says (neg_ℤ c) row point in (
        (λ p. let t = told.0 p in (All-cons H low [] (one.1 t.0) (All-nil H), All-cons H high [] (other.1 t.1) (All-nil H), All-nil H)),
        (λ t. told.1 (one.0 (All-head H low [] t.0), other.0 (All-head H high [] t.1))),
      ))
      (λ h. omega arith) (λ h. omega arith)
      new (ap (λ (e : Ends). e.low) made) (ap (λ (e : Ends). e.high) made) (ap (λ (e : Ends). e.others) made ∙ same_end new old.others)

-- ---- inequalities as they are
pub low_end : (g : Gauge) (variables : ℕ) (row : Row) → IsWellFormed (variables + 1) row → IsRowWithin g row → row.kind ≡ AtLeast
    → pos 0 <ℤ coef_at row variables → IsEnd g variables Low row
low_end g variables row formed within kind above = record { formed = formed; within = within; kind = kind; toward = above }

pub high_end : (g : Gauge) (variables : ℕ) (row : Row) → IsWellFormed (variables + 1) row → IsRowWithin g row → row.kind ≡ AtLeast
    → coef_at row variables ≢ pos 0 → ¬ (pos 0 <ℤ coef_at row variables) → IsEnd g variables High row
high_end g variables row formed within kind some above =
    record { formed = formed; within = within; kind = kind; toward = below (coef_at row variables) some above }
  where
    below : (c : ℤ) → c ≢ pos 0 → ¬ (pos 0 <ℤ c) → pos 0 <ℤ neg_ℤ c
    below c n p = omega (arith, linear, n, p)

-- ---- results
pub on_ok : {A E P Q : Type 0} (r : Result A E) → OnOk r P → (P → Q) → OnOk r Q
on_ok (Ok a) p f = f p
on_ok (Err e) p f = p

pub on_all_ok : {A E P Q R S : Type 0} (r : Result A E) → OnOk r P → OnOk r Q → OnOk r R → (P → Q → R → S) → OnOk r S
on_all_ok (Ok a) p q r f = f p q r
on_all_ok (Err e) p q r f = p
