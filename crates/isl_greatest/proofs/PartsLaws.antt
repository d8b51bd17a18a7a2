-- Rows that are taken apart.
use Rattle.std.proofs.Common.{◌≡◌, ◌≢◌, ◌⊎◌, ◌↔◌, inl, inr, refl, sym, ap, ◌∙◌, subst, arith, ℕ, ◌+◌, ◌<◌, ◌≤◌, ℤ, pos, negsuc, neg_ℤ, ◌<ℤ◌, ◌≤ℤ◌, ◌+ℤ◌, ◌*ℤ◌}
use Rattle.std.proofs.Common.{List, [], ◌∷◌, ◌++◌, length, get_or, take, true, false}
use Rattle.std.specs.List.{All}
use Rattle.std.proofs.lemmas.List.{take_all, take_more}
use Rattle.std.proofs.lemmas.List.Elements.{All-more, All-nil, All-push, All-weaker}
use Rattle.isl_math.specs.Divide.{Divides}
use Rattle.isl_math.specs.Dot.{dot, weighted_sum}
use Rattle.isl_math.proofs.ColumnLaws.{dot-weighted_sum, length-weighted_sum}
use Rattle.isl_math.proofs.DivideLaws.{Divides-*ℤ, Divides-from_mod, Divides_self, Divides_trans, Divides-same}
use Rattle.isl_math.proofs.ListLaws.{All-last}
use Rattle.isl_math.proofs.OrderLaws.{at_most_or_above, positive-*ℤ}
use Rattle.isl_math.proofs.Ring.{expand, linear}
use lib.IntN.{*ℤ_comm}
use Rattle.isl_meter.specs.Gauge.{Gauge, IsWithin}
use Rattle.isl_piece.specs.declared.row.RowKind.{RowKind}
use Rattle.isl_piece.specs.declared.row.RowKind.TheVariants as kind
use Rattle.isl_piece.specs.declared.row.Row.{Row}
use Rattle.isl_piece.specs.declared.system.System.{System}
use Rattle.isl_piece.specs.Row.{coef_at, value_at, HasModulus, HoldsRow, HoldsValue, IsRowWithin, IsWellFormed}
use Rattle.isl_piece.specs.System.{HoldRows}
use Rattle.isl_greatest_law.specs.Case.{CaseView, HoldsCase, IsBound, IsCase, IsCongruence, IsOther, IsTop}
use Rattle.isl_greatest.specs.declared.case.Parts.{Parts}
use Rattle.isl_greatest.specs.Parts.{half_of, AreParts, IsPeriodOf, PartsHold, PushesRow}
use Rattle.isl_greatest.specs.Problem.{IsCaseOf, IsCaseWithin}

-- ---- one row more
hold_push : (rows : List Row) (r : Row) (point : List ℤ) → HoldRows (rows ++ r ∷ []) point ↔ (HoldRows rows point × HoldsRow r point)
hold_push rows r point = (
  (λ h. All-last (λ s. HoldsRow s point) rows r h),
  (λ h. All-push (λ s. HoldsRow s point) rows r h.0 h.1),
)

sorts : (k : RowKind) → k ≢ kind.Zero → (k ≡ kind.AtLeast) ⊎ ((k ≡ kind.Divides) ⊎ (k ≡ kind.NotDivides))
sorts kind.Zero n = absurd (n refl)
sorts kind.AtLeast n = inl refl
sorts kind.Divides n = inr (inl refl)
sorts kind.NotDivides n = inr (inr refl)

pub congruence_or_not : (r : Row) → IsCongruence r ⊎ (¬ IsCongruence r)
congruence_or_not r = by r.kind refl
  where
    by : (k : RowKind) → r.kind ≡ k → IsCongruence r ⊎ (¬ IsCongruence r)
    by kind.Zero e = inr (λ h. elim h [ inl a ↦ (let b = sym e ∙ a in cc) | inr a ↦ (let b = sym e ∙ a in cc) ])
    by kind.AtLeast e = inr (λ h. elim h [ inl a ↦ (let b = sym e ∙ a in cc) | inr a ↦ (let b = sym e ∙ a in cc) ])
    by kind.Divides e = inl (inl e)
    by kind.NotDivides e = inl (inr e)

other_row : (n : ℕ) (r : Row) → IsWellFormed (n + 1) r → r.kind ≢ kind.Zero → ¬ (IsBound r × (coef_at r n <ℤ pos 0)) → IsOther n r
other_row n r formed no_zero no_top = record {
  formed = formed;
  says = elim (sorts r.kind no_zero) [
    | inr congruence ↦ inr congruence
    | inl bound ↦ elim (at_most_or_above (pos 0) (coef_at r n)) [
      | inl up ↦ inl (record { bound = bound; rises = up })
      | inr down ↦ absurd (no_top (bound, down))
    ]
  ];
}

pub pushed_top : (g : Gauge) (n : ℕ) (r : Row) (old new : Parts) → IsWellFormed (n + 1) r → IsRowWithin g r → IsBound r × (coef_at r n <ℤ pos 0)
    → new ≡ record { tops = old.tops ++ r ∷ []; others = old.others } → PushesRow g n r old new
pushed_top g n r old new formed within top is = subst (PushesRow g n r old) (sym is) (record {
  parts = λ are. record {
    tops = All-push (IsTop n) old.tops r are.tops (record { formed = formed; bound = top.0; falls = top.1 });
    others = are.others;
    tops_within = All-push (IsRowWithin g) old.tops r are.tops_within within;
    others_within = are.others_within;
  };
  points = λ point. (
    (λ h. let both = (hold_push old.tops r point).0 h.0 in ((both.0, h.1), both.1)),
    (λ h. ((hold_push old.tops r point).1 (h.0.0, h.1), h.0.1)),
  );
})

pub pushed_other : (g : Gauge) (n : ℕ) (r : Row) (old new : Parts) → IsWellFormed (n + 1) r → IsRowWithin g r → r.kind ≢ kind.Zero
    → ¬ (IsBound r × (coef_at r n <ℤ pos 0)) → new ≡ record { tops = old.tops; others = old.others ++ r ∷ [] } → PushesRow g n r old new
pushed_other g n r old new formed within no_zero no_top is = subst (PushesRow g n r old) (sym is) (record {
  parts = λ are. record {
    tops = are.tops;
    others = All-push (IsOther n) old.others r are.others (other_row n r formed no_zero no_top);
    tops_within = are.tops_within;
    others_within = All-push (IsRowWithin g) old.others r are.others_within within;
  };
  points = λ point. (
    (λ h. let both = (hold_push old.others r point).0 h.1 in ((h.0, both.0), both.1)),
    (λ h. (h.0.0, (hold_push old.others r point).1 (h.0.1, h.1))),
  );
})

-- ---- halves
pub first_formed : (n : ℕ) (r : Row) → IsWellFormed n r → IsWellFormed n (half_of false r)
first_formed n r formed = record { width = formed.width; modulus = refl }

pub second_formed : (n : ℕ) (r : Row) → IsWellFormed n r → IsWellFormed n (half_of true r)
second_formed n r formed = record { width = length-weighted_sum (negsuc 0) r.coefs (pos 0) r.coefs refl ∙ formed.width; modulus = refl }

halves_hold : (r : Row) (point : List ℤ) → r.kind ≡ kind.Zero
    → (HoldsRow (half_of false r) point × HoldsRow (half_of true r) point) ↔ HoldsRow r point
halves_hold r point is =
    let d = dot-weighted_sum (negsuc 0) r.coefs (pos 0) r.coefs point refl in
    let v = by (dot r.coefs point) (dot (weighted_sum (negsuc 0) r.coefs (pos 0) r.coefs) point) r.constant d in (
      (λ h. subst (λ k. HoldsValue k r.k (value_at r point)) (sym is) (v.0 h.0 h.1)),
      (λ h. v.1 (subst (λ k. HoldsValue k r.k (value_at r point)) is h)),
    )
  where
    by : (a b c : ℤ) → b ≡ negsuc 0 *ℤ a +ℤ pos 0 *ℤ a
        → (pos 0 ≤ℤ (a +ℤ c) → pos 0 ≤ℤ (b +ℤ neg_ℤ c) → a +ℤ c ≡ pos 0) × (a +ℤ c ≡ pos 0 → (pos 0 ≤ℤ (a +ℤ c)) × (pos 0 ≤ℤ (b +ℤ neg_ℤ c)))
    by a b c e = (
      (λ p q. omega (arith, linear, e, p, q)),
      (λ z. (omega (arith, linear, z), omega (arith, linear, e, z))),
    )

-- both halves of an equation
pub pushed_halves : (g : Gauge) (n : ℕ) (r : Row) (old mid new : Parts) (first second : Row) → r.kind ≡ kind.Zero
    → first ≡ half_of false r → second ≡ half_of true r → PushesRow g n first old mid → PushesRow g n second mid new → PushesRow g n r old new
pushed_halves g n r old mid new first second zero a b one two = record {
  parts = λ are. two.parts (one.parts are);
  points = λ point.
      let f = subst (λ (s : Row). PartsHold mid point ↔ (PartsHold old point × HoldsRow s point)) a (one.points point) in
      let s = subst (λ (t : Row). PartsHold new point ↔ (PartsHold mid point × HoldsRow t point)) b (two.points point) in
      let h = halves_hold r point zero in (
        (λ x. let y = s.0 x in let z = f.0 y.0 in (z.0, h.0 (z.1, y.1))),
        (λ x. let y = h.1 x.1 in s.1 (f.1 (x.0, y.0), y.1)),
      );
}

pub pushed_copy : (g : Gauge) (n : ℕ) (r copy : Row) (old new : Parts) → copy ≡ r → PushesRow g n copy old new → PushesRow g n r old new
pushed_copy g n r copy old new is = subst (λ (s : Row). PushesRow g n s old new) is

-- ---- all rows of a list
pub record AreTaken (g : Gauge) (n : ℕ) (rows : List Row) (p : Parts) : Type 0 where
  pub parts : AreParts g n p
  pub points : (point : List ℤ) → PartsHold p point ↔ HoldRows rows point

pub taken_none : (g : Gauge) (n : ℕ) (rows : List Row) (p : Parts) → p.tops ≡ [] → p.others ≡ [] → AreTaken g n (take 0 rows) p
taken_none g n rows p a b = record {
  parts = record {
    tops = subst (All (IsTop n)) (sym a) (All-nil (IsTop n));
    others = subst (All (IsOther n)) (sym b) (All-nil (IsOther n));
    tops_within = subst (All (IsRowWithin g)) (sym a) (All-nil (IsRowWithin g));
    others_within = subst (All (IsRowWithin g)) (sym b) (All-nil (IsRowWithin g));
  };
  points = λ point. (
    (λ h. All-nil (λ r. HoldsRow r point)),
    (λ h. (subst (λ rs. HoldRows rs point) (sym a) (All-nil (λ r. HoldsRow r point)), subst (λ rs. HoldRows rs point) (sym b) (All-nil (λ r. HoldsRow r point)))),
  );
}

pub taken_more : (g : Gauge) (n : ℕ) (rows : List Row) (i : ℕ) (r : Row) (old new : Parts) → i < length rows → r ≡ get_or rows i r
    → AreTaken g n (take i rows) old → PushesRow g n r old new → AreTaken g n (take (i + 1) rows) new
taken_more g n rows i r old new inside is so_far pushed =
    let whole : take (i + 1) rows ≡ take i rows ++ r ∷ [] = take_more rows i r inside ∙ ap (λ (s : Row). take i rows ++ s ∷ []) (sym is) in
    subst (λ (rs : List Row). AreTaken g n rs new) (sym whole) (record {
      parts = pushed.parts so_far.parts;
      points = λ point.
          let h = hold_push (take i rows) r point in
          let s = so_far.points point in
          let t = pushed.points point in (
            (λ x. let y = t.0 x in h.1 (s.0 y.0, y.1)),
            (λ x. let y = h.0 x in t.1 (s.1 y.0, y.1)),
          );
    })

pub taken_case : (g : Gauge) (n i : ℕ) (s : System) (p : Parts) (period : ℤ) (c : CaseView) → length s.rows ≤ i → AreTaken g n (take i s.rows) p
    → IsPeriodOf p.others period → IsWithin g period → c ≡ record { tops = p.tops; others = p.others; period = period } → IsCaseOf g n s c
taken_case g n i s p period c all taken multiple within is = subst (IsCaseOf g n s) (sym is) (record {
  within = record {
    case = record { tops = taken.parts.tops; others = taken.parts.others; period = multiple.positive; divides = multiple.divides };
    tops = taken.parts.tops_within;
    others = taken.parts.others_within;
    period = within;
  };
  points = λ point h.
      let parts = (taken.points point).1 (subst (λ rs. HoldRows rs point) (sym (take_all i s.rows all)) h) in
      record { tops = parts.0; others = parts.1 };
  back = λ point h. subst (λ rs. HoldRows rs point) (take_all i s.rows all) ((taken.points point).0 (h.tops, h.others));
})

-- ---- periods
pub period_first : (rows : List Row) → IsPeriodOf (take 0 rows) (pos 1)
period_first rows = record { positive = omega (arith, linear); divides = All-nil (λ r. IsCongruence r → Divides r.k (pos 1)) }

pub period_more : (rows : List Row) (i : ℕ) (r : Row) (old new : ℤ) → i < length rows → r ≡ get_or rows i r → IsPeriodOf (take i rows) old
    → pos 0 <ℤ new → Divides old new → (IsCongruence r → Divides r.k new) → IsPeriodOf (take (i + 1) rows) new
period_more rows i r old new inside is so_far up multiple own = record {
  positive = up;
  divides = All-more (λ s. IsCongruence s → Divides s.k new) rows i r inside
      (All-weaker (λ s. IsCongruence s → Divides s.k old) (λ s. IsCongruence s → Divides s.k new)
      (λ s h c. Divides_trans s.k old new (h c) multiple) (take i rows) so_far.divides)
      (subst (λ (s : Row). IsCongruence s → Divides s.k new) is own);
}

pub period_product : (rows : List Row) (i : ℕ) (r : Row) (old new : ℤ) → i < length rows → r ≡ get_or rows i r → IsPeriodOf (take i rows) old
    → pos 0 <ℤ r.k → new ≡ old *ℤ r.k → IsPeriodOf (take (i + 1) rows) new
period_product rows i r old new inside is so_far up product =
    period_more rows i r old new inside is so_far (subst (λ z. pos 0 <ℤ z) (sym product) (positive-*ℤ old r.k so_far.positive up))
    (Divides-same old (old *ℤ r.k) new (sym product) (Divides-*ℤ old old r.k (Divides_self old)))
    (λ c. Divides-same r.k (r.k *ℤ old) new (*ℤ_comm r.k old ∙ sym product) (Divides-*ℤ r.k r.k old (Divides_self r.k)))

pub period_all : (rows : List Row) (i : ℕ) (period : ℤ) → length rows ≤ i → IsPeriodOf (take i rows) period → IsPeriodOf rows period
period_all rows i period all = subst (λ (rs : List Row). IsPeriodOf rs period) (take_all i rows all)

pub congruence_positive : (rows : List Row) (i : ℕ) (r : Row) → i < length rows → r ≡ get_or rows i r → All (λ s. HasModulus s.kind s.k) rows
    → IsCongruence r → pos 0 <ℤ r.k
congruence_positive rows i r inside is moduli congruence =
    let own : HasModulus r.kind r.k = subst (λ (s : Row). HasModulus s.kind s.k) (sym is) (moduli i r inside) in
    elim congruence [
      | inl e ↦ subst (λ k. HasModulus k r.k) e own
      | inr e ↦ subst (λ k. HasModulus k r.k) e own
    ]

-- ---- halves as they are made
abbrev half_of_form : List ℤ → ℤ → Row
half_of_form l c = record { kind = kind.AtLeast; coefs = l; constant = c; k = pos 1 }

bound_within : (g : Gauge) (cs : List ℤ) (c : ℤ) → All (IsWithin g) cs → IsWithin g c → IsWithin g (pos 1)
    → IsRowWithin g (record { kind = kind.AtLeast; coefs = cs; constant = c; k = pos 1 })
bound_within g cs c coefs constant one = record { coefs = coefs; constant = constant; k = one }

pub half_first : (g : Gauge) (r new : Row) (cs : List ℤ) → cs ≡ r.coefs → new ≡ record { kind = kind.AtLeast; coefs = cs; constant = r.constant; k = pos 1 }
    → IsRowWithin g r → IsWithin g (pos 1) → (new ≡ half_of false r) × IsRowWithin g new
half_first g r new cs same is within one =
    let whole : new ≡ half_of false r = is ∙ ap (λ (l : List ℤ). half_of_form l r.constant) same in
    (whole, subst (IsRowWithin g) (sym whole) (bound_within g r.coefs r.constant within.coefs within.constant one))

pub half_second : (g : Gauge) (r new : Row) (cs : List ℤ) (c : ℤ) → cs ≡ weighted_sum (negsuc 0) r.coefs (pos 0) r.coefs → All (IsWithin g) cs
    → c ≡ neg_ℤ r.constant → IsWithin g c → new ≡ record { kind = kind.AtLeast; coefs = cs; constant = c; k = pos 1 } → IsWithin g (pos 1)
    → (new ≡ half_of true r) × IsRowWithin g new
half_second g r new cs c same coefs number constant is one = (
  is ∙ ap (λ (l : List ℤ). half_of_form l c) same ∙ ap (λ z. half_of_form (weighted_sum (negsuc 0) r.coefs (pos 0) r.coefs) z) number,
  subst (IsRowWithin g) (sym is) (bound_within g cs c coefs constant one),
)
