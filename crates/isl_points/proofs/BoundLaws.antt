-- What bounds on one column say of its number.
use Rattle.std.proofs.Common.{◌≡◌, ◌↔◌, ◌∙◌, sym, ap, subst, arith, ℤ, pos, neg_ℤ, ◌+ℤ◌, ◌*ℤ◌, ◌≤ℤ◌, ◌<ℤ◌, List, [], ◌∷◌, length, get_or}
use Rattle.std.specs.Prelude.{Option}
use Rattle.isl_math.specs.Divide.{floor_div}
use Rattle.isl_math.specs.Dot.{dot}
use Rattle.isl_math.proofs.Ring.{expand, linear}
use Rattle.isl_math.proofs.DotLaws.{dot-nil_right}
use Rattle.isl_math.proofs.DivideLaws.{at_most_floor}
use Rattle.isl_piece.specs.declared.row.Row.{Row}
use Rattle.isl_piece.specs.declared.row.RowKind.TheVariants.{Zero, AtLeast}
use Rattle.isl_piece.specs.Row.{value_at, coef_at}
use Rattle.isl_points.specs.Ends.{IsFrom, IsTo}
use Rattle.isl_points.specs.Interval.{MeetsBound}

-- ---- a row over one column
dot_one : (cs : List ℤ) (x : ℤ) → length cs ≡ 1 → dot cs (x ∷ []) ≡ get_or cs 0 (pos 0) *ℤ x
dot_one [] x l = absurd (omega (arith, l))
dot_one (c ∷ cs) x l = let e = dot-nil_right cs in omega (arith, linear)

pub one_value : (r : Row) (x : ℤ) → length r.coefs ≡ 1 → value_at r (x ∷ []) ≡ coef_at r 0 *ℤ x +ℤ r.constant
one_value r x l = ap (λ (z : ℤ). z +ℤ r.constant) (dot_one r.coefs x l)

-- ---- one bound
pub low_end : (c f q x : ℤ) → pos 0 <ℤ c → q ≡ neg_ℤ (floor_div f c) → q ≤ℤ x ↔ pos 0 ≤ℤ (c *ℤ x +ℤ f)
low_end c f q x p e =
    let a = at_most_floor f c (neg_ℤ x) p in (
      (λ h. let t = simp expand at (a.0 (omega (arith, linear))) in simp expand (omega (arith, linear))),
      (λ h. let t = simp expand at h in let u = a.1 (simp expand (omega (arith, linear))) in omega (arith, linear)),
    )

pub high_end : (c f d q x : ℤ) → c <ℤ pos 0 → d ≡ neg_ℤ c → q ≡ floor_div f d → x ≤ℤ q ↔ pos 0 ≤ℤ (c *ℤ x +ℤ f)
high_end c f d q x p e g =
    let a = at_most_floor f d x (omega (arith, linear)) in
    let m = simp expand at (ap (λ (z : ℤ). z *ℤ x) e) in (
      (λ h. let t = simp expand at (a.0 (omega (arith, linear))) in simp expand (omega (arith, linear))),
      (λ h. let t = simp expand at h in let u = a.1 (simp expand (omega (arith, linear))) in omega (arith, linear)),
    )

pub raised_is : (low high : Option ℤ) (new c f d q x : ℤ) → pos 0 <ℤ c → d ≡ floor_div f c → q ≡ neg_ℤ d
    → new ≤ℤ x ↔ (IsFrom low x × q ≤ℤ x)
    → (new ≤ℤ x × IsTo high x) ↔ ((IsFrom low x × IsTo high x) × pos 0 ≤ℤ (c *ℤ x +ℤ f))
raised_is low high new c f d q x p e g n =
    let b = low_end c f q x p (g ∙ ap neg_ℤ e) in (
      (λ h. (((n.0 h.0).0, h.1), b.0 (n.0 h.0).1)),
      (λ h. (n.1 (h.0.0, b.1 h.1), h.0.1)),
    )

pub lowered_is : (low high : Option ℤ) (new c f d q x : ℤ) → c <ℤ pos 0 → d ≡ neg_ℤ c → q ≡ floor_div f d
    → x ≤ℤ new ↔ (IsTo high x × x ≤ℤ q)
    → (IsFrom low x × x ≤ℤ new) ↔ ((IsFrom low x × IsTo high x) × pos 0 ≤ℤ (c *ℤ x +ℤ f))
lowered_is low high new c f d q x p e g n =
    let b = high_end c f d q x p e g in (
      (λ h. ((h.0, (n.0 h.1).0), b.0 (n.0 h.1).1)),
      (λ h. (h.0.0, n.1 (h.0.1, b.1 h.1))),
    )

-- ---- one row
meets_zero : (r : Row) (x : ℤ) → r.kind ≡ Zero → length r.coefs ≡ 1 → MeetsBound x r ↔ (coef_at r 0 *ℤ x +ℤ r.constant ≡ pos 0)
meets_zero r x is l = let v = one_value r x l in rw is ((λ h. sym v ∙ h tt), (λ h k. v ∙ h))

meets_large : (r : Row) (x : ℤ) → r.kind ≡ AtLeast → length r.coefs ≡ 1 → MeetsBound x r ↔ (pos 0 ≤ℤ (coef_at r 0 *ℤ x +ℤ r.constant))
meets_large r x is l = let v = one_value r x l in
    rw is ((λ h. subst (λ z. pos 0 ≤ℤ z) v (h tt)), (λ h k. subst (λ z. pos 0 ≤ℤ z) (sym v) h))

-- a form is 0 where it and its negative are at least 0
halves : (c f d e x : ℤ) → d ≡ neg_ℤ c → e ≡ neg_ℤ f → (c *ℤ x +ℤ f ≡ pos 0) ↔ (pos 0 ≤ℤ (c *ℤ x +ℤ f) × pos 0 ≤ℤ (d *ℤ x +ℤ e))
halves c f d e x p q =
    let m = simp expand at (ap (λ (z : ℤ). z *ℤ x) p) in (
      (λ h. let t = simp expand at h in (simp expand (omega (arith, linear)), simp expand (omega (arith, linear)))),
      (λ h. let t = simp expand at h.0 in let u = simp expand at h.1 in simp expand (omega (arith, linear))),
    )

pub met_zero : (A B C : Type 0) (r : Row) (x c f d e : ℤ) → r.kind ≡ Zero → length r.coefs ≡ 1 → c ≡ coef_at r 0 → f ≡ r.constant
    → d ≡ neg_ℤ c → e ≡ neg_ℤ f → B ↔ (A × pos 0 ≤ℤ (c *ℤ x +ℤ f)) → C ↔ (B × pos 0 ≤ℤ (d *ℤ x +ℤ e)) → C ↔ (A × MeetsBound x r)
met_zero A B C r x c f d e is l p q s t b n =
    let m = meets_zero r x is l in
    let h : (c *ℤ x +ℤ f ≡ pos 0) ↔ (pos 0 ≤ℤ (c *ℤ x +ℤ f) × pos 0 ≤ℤ (d *ℤ x +ℤ e)) = halves c f d e x s t in
    let same : c *ℤ x +ℤ f ≡ coef_at r 0 *ℤ x +ℤ r.constant = ap (λ (z : ℤ). z *ℤ x +ℤ f) p ∙ ap (λ (z : ℤ). coef_at r 0 *ℤ x +ℤ z) q in (
      (λ k. let i = n.0 k in let j = b.0 i.0 in (j.0, m.1 (sym same ∙ h.1 (j.1, i.1)))),
      (λ k. let i = h.0 (same ∙ m.0 k.1) in n.1 (b.1 (k.0, i.0), i.1)),
    )

pub met_large : (A C : Type 0) (r : Row) (x c f : ℤ) → r.kind ≡ AtLeast → length r.coefs ≡ 1 → c ≡ coef_at r 0 → f ≡ r.constant
    → C ↔ (A × pos 0 ≤ℤ (c *ℤ x +ℤ f)) → C ↔ (A × MeetsBound x r)
met_large A C r x c f is l p q n =
    let m = meets_large r x is l in
    let same : c *ℤ x +ℤ f ≡ coef_at r 0 *ℤ x +ℤ r.constant = ap (λ (z : ℤ). z *ℤ x +ℤ f) p ∙ ap (λ (z : ℤ). coef_at r 0 *ℤ x +ℤ z) q in (
      (λ k. let i = n.0 k in (i.0, m.1 (subst (λ z. pos 0 ≤ℤ z) same i.1))),
      (λ k. n.1 (k.0, subst (λ z. pos 0 ≤ℤ z) (sym same) (m.0 k.1))),
    )
