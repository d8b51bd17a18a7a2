-- What the last column adds to an affine hull: nothing where two points differ there alone, and else an equation with a unit there.
use Rattle.std.proofs.Common.{◌≡◌, ◌⊎◌, ◌↔◌, ◌∙◌, inl, inr, refl, sym, ap, subst, arith, ℕ, zero, suc, ◌+◌, ◌<◌, ◌≤◌}
use Rattle.std.proofs.Common.{ℤ, pos, negsuc, neg_ℤ, ◌+ℤ◌, ◌-ℤ◌, ◌*ℤ◌, List, [], ◌∷◌, ◌++◌, length, length-append, map, get_or, set, take}
use Rattle.std.specs.List.{All, insert, remove}
use Rattle.std.proofs.lemmas.List.{length-take-le}
use Rattle.std.proofs.lemmas.List.Edits.{get_or-insert_at, length-insert}
use Rattle.std.proofs.lemmas.List.Elements.{All-append, All-cons, All-head, All-tail}
use Rattle.isl_math.specs.Dot.{dot, weighted_sum}
use Rattle.isl_math.proofs.ColumnLaws.{dot-weighted_sum, get_or-weighted_sum, length-weighted_sum}
use Rattle.isl_math.proofs.DotLaws.{dot-set}
use Rattle.isl_math.proofs.ListLaws.{All-parts}
use Rattle.isl_math.proofs.Ring.{expand, linear}
use Rattle.isl_meter.specs.Gauge.{Gauge}
use Rattle.isl_piece.specs.declared.row.Row.{Row}
use Rattle.isl_piece.specs.Row.{HoldsRow, HoldsValue, coef_at, value_at}
use Rattle.isl_piece.specs.System.{HoldRows}
use Rattle.isl_piece.proofs.ContentLaws.{zero_cases}
use Rattle.isl_span.specs.Chain.{AreHullRows, IsFreeAtLast, IsLastEquation, IsUnit, padded}
use Rattle.isl_span.specs.Forms.{IsForm}
use Rattle.isl_span.specs.Independent.{AreIndependent}
use Rattle.isl_span.specs.Points.{VanishesOnAll}
use Rattle.isl_span.proofs.EndLaws.{equation_holds}
use Rattle.isl_span.proofs.WiderLaws.{dot_wide, hold_padded, holds_padded, padded_forms}

-- ---- units
pub unit_cases : (z : ℤ) → IsUnit z → (z ≡ pos 1) ⊎ (z ≡ negsuc 0)
unit_cases (pos n) e = inl (ap pos e)
unit_cases (negsuc n) e = inr (ap negsuc (let f : n ≡ 0 = omega (arith, e) in f))

-- ---- the last number of a point
dot_last : (n : ℕ) (cs xs : List ℤ) → length cs ≡ n + 1
    → dot cs xs ≡ dot (take n cs) xs +ℤ get_or cs n (pos 0) *ℤ get_or xs n (pos 0)
dot_last n [] xs e = absurd (omega (arith, e))
dot_last zero (c ∷ []) [] e = omega (arith, linear)
dot_last zero (c ∷ []) (x ∷ xs) e = omega (arith, linear)
dot_last zero (c ∷ d ∷ cs) xs e = absurd (omega (arith, e))
dot_last (suc n) (c ∷ cs) [] e = by (get_or cs n (pos 0))
  where
    by : (z : ℤ) → pos 0 ≡ pos 0 +ℤ z *ℤ pos 0
    by z = omega (arith, linear)
dot_last (suc n) (c ∷ cs) (x ∷ xs) e = omega (arith, linear, dot_last n cs xs (omega (arith, e)))

dot_inserted : (cs xs : List ℤ) (n : ℕ) (x : ℤ) → length cs ≤ n → n ≤ length xs → dot cs (insert xs n x) ≡ dot cs xs
dot_inserted [] xs n x short long = refl
dot_inserted (c ∷ cs) xs zero x short long = absurd (omega arith)
dot_inserted (c ∷ cs) [] (suc n) x short long = absurd (omega arith)
dot_inserted (c ∷ cs) (y ∷ xs) (suc n) x short long = ap (λ z. c *ℤ y +ℤ z) (dot_inserted cs xs n x (omega arith) (omega arith))

dot_removed : (cs xs : List ℤ) (n : ℕ) → length cs ≤ n → n < length xs → dot cs (remove xs n) ≡ dot cs xs
dot_removed [] xs n short long = refl
dot_removed (c ∷ cs) xs zero short long = absurd (omega arith)
dot_removed (c ∷ cs) [] (suc n) short long = absurd (omega arith)
dot_removed (c ∷ cs) (y ∷ xs) (suc n) short long = ap (λ z. c *ℤ y +ℤ z) (dot_removed cs xs n (omega arith) (omega arith))

-- ---- a list of images, taken apart
pub record IsSplit {X Y : Type 0} (f : X → Y) (xs : List X) (before : List Y) (y : Y) (behind : List Y) : Type 0 where
  pub first : List X
  pub here : X
  pub rest : List X
  pub is : xs ≡ first ++ here ∷ rest
  pub before_is : before ≡ map f first
  pub here_is : y ≡ f here
  pub behind_is : behind ≡ map f rest

pub split_map : {X Y : Type 0} (f : X → Y) (xs : List X) (before : List Y) (y : Y) (behind : List Y)
    → map f xs ≡ before ++ y ∷ behind → IsSplit f xs before y behind
split_map f [] [] y behind e = absurd (let l = ap length e in omega (arith, l))
split_map f [] (b ∷ before) y behind e = absurd (let l = ap length e in omega (arith, l))
split_map f (x ∷ xs) [] y behind e = record {
  first = [];
  here = x;
  rest = xs;
  is = refl;
  before_is = refl;
  here_is = cc;
  behind_is = cc;
}
split_map f (x ∷ xs) (b ∷ before) y behind e =
    let head : f x ≡ b = cc in
    let tail : map f xs ≡ before ++ y ∷ behind = cc in
    let s = split_map f xs before y behind tail in
    record {
      first = x ∷ s.first;
      here = s.here;
      rest = s.rest;
      is = ap (λ l. x ∷ l) s.is;
      before_is = ap (λ c. c ∷ before) (sym head) ∙ ap (λ l. f x ∷ l) s.before_is;
      here_is = s.here_is;
      behind_is = s.behind_is;
    }

-- ---- rows at points with one number more
module _ (g : Gauge) (n : ℕ) where
  holds_inserted : (r : Row) (q : List ℤ) (x : ℤ) → IsForm g n r → length q ≡ n → HoldsRow r (insert q n x) ↔ HoldsRow r q
  holds_inserted r q x f long =
      let same : value_at r (insert q n x) ≡ value_at r q = ap (λ z. z +ℤ r.constant)
      (dot_inserted r.coefs q n x (let l = f.formed.width in omega arith) (omega arith)) in (
        (λ h. subst (λ (z : ℤ). HoldsValue r.kind r.k z) same h),
        (λ h. subst (λ (z : ℤ). HoldsValue r.kind r.k z) (sym same) h),
      )

  hold_inserted : (rows : List Row) (q : List ℤ) (x : ℤ) → All (IsForm g n) rows → length q ≡ n → HoldRows rows q
      → HoldRows rows (insert q n x)
  hold_inserted rows q x all long holds k d low = (holds_inserted (get_or rows k d) q x (all k d low) long).1 (holds k d low)

  -- an equation with a unit at the last column has each value with some number there
  reached : (e : Row) → IsForm g (n + 1) e → IsUnit (coef_at e n) → (q : List ℤ) → length q ≡ n → (t : ℤ)
      → (x : ℤ) × (value_at e (insert q n x) ≡ t)
  reached e f unit q long t =
      let rest : ℤ = dot (take n e.coefs) q +ℤ e.constant in
      elim (unit_cases (coef_at e n) unit) [
        | inl one ↦ (t -ℤ rest, at (t -ℤ rest) ∙ plus (coef_at e n) rest t one)
        | inr minus ↦ (rest -ℤ t, at (rest -ℤ t) ∙ less (coef_at e n) rest t minus)
      ]
    where
      at : (x : ℤ) → value_at e (insert q n x) ≡ coef_at e n *ℤ x +ℤ (dot (take n e.coefs) q +ℤ e.constant)
      at x =
          let width = f.formed.width in
          let short = length-take-le n e.coefs (omega (arith, width)) in
          by (dot e.coefs (insert q n x)) (dot (take n e.coefs) (insert q n x)) (dot (take n e.coefs) q) (coef_at e n)
          (get_or (insert q n x) n (pos 0)) x (dot_last n e.coefs (insert q n x) width)
          (dot_inserted (take n e.coefs) q n x (omega (arith, short)) (omega (arith, long)))
          (get_or-insert_at q n x (pos 0) (omega (arith, long)))
        where
          by : (v d c a y x : ℤ) → v ≡ d +ℤ a *ℤ y → d ≡ c → y ≡ x → v +ℤ e.constant ≡ a *ℤ x +ℤ (c +ℤ e.constant)
          by v d c a y x h i j = let m = ap (λ w. a *ℤ w) j in omega (arith, linear, h, i, m)

      plus : (a c t : ℤ) → a ≡ pos 1 → a *ℤ (t -ℤ c) +ℤ c ≡ t
      plus a c t is = let m = ap (λ w. w *ℤ (t -ℤ c)) is in omega (arith, linear, m)

      less : (a c t : ℤ) → a ≡ negsuc 0 → a *ℤ (c -ℤ t) +ℤ c ≡ t
      less a c t is = let m = ap (λ w. w *ℤ (c -ℤ t)) is in omega (arith, linear, m)

-- ---- points and their projection
-- the points of P without their last numbers are those of Q
pub record IsFront (n : ℕ) (P Q : List ℤ → Type 0) : Type 0 where
  pub long : (p : List ℤ) → P p → length p ≡ n + 1
  pub short : (q : List ℤ) → Q q → length q ≡ n
  pub down : (p : List ℤ) → P p → Q (remove p n)
  pub up : (q : List ℤ) → Q q → (x : ℤ) × P (insert q n x)

module _ (g : Gauge) (n : ℕ) (P Q : List ℤ → Type 0) (front : IsFront n P Q) (rest : List Row) (old : AreHullRows g n Q rest) where
  abbrev new : List Row
  new = map (padded (n + 1)) rest

  widths : All (IsForm g n) rest
  widths = old.forms

  some_left : ¬ ((p : List ℤ) → ¬ P p)
  some_left none = old.some (λ q at. none (insert q n (front.up q at).0) (front.up q at).1)

  -- a form that is 0 on Q is 0 on P
  vanish_up : (cs : List ℤ) (k : ℤ) → VanishesOnAll n Q cs k → VanishesOnAll (n + 1) P (cs ++ pos 0 ∷ []) k
  vanish_up cs k v = record {
    long = length-append cs (pos 0 ∷ []) ∙ ap (λ m. m + 1) v.long;
    zero = λ p at.
        let long = front.long p at in
        ap (λ z. z +ℤ k) (dot_wide cs p ∙ sym (dot_removed cs p n (let l = v.long in omega arith) (omega (arith, long))))
        ∙ v.zero (remove p n) (front.down p at);
  }

  -- one that is 0 on P, and has no part in the last column, is 0 on Q
  vanish_down : (cs : List ℤ) (k : ℤ) → VanishesOnAll (n + 1) P cs k → get_or cs n (pos 0) ≡ pos 0 → VanishesOnAll n Q (take n cs) k
  vanish_down cs k v none =
      let long = v.long in
      let short = length-take-le n cs (omega (arith, long)) in
      record {
        long = short;
        zero = λ q at.
            let u = front.up q at in
            by (dot cs (insert q n u.0)) (dot (take n cs) (insert q n u.0)) (dot (take n cs) q) (get_or cs n (pos 0))
            (get_or (insert q n u.0) n (pos 0)) (dot_last n cs (insert q n u.0) long)
            (dot_inserted (take n cs) q n u.0 (omega (arith, short)) (let s = front.short q at in omega (arith, s))) none
            (v.zero (insert q n u.0) u.1);
      }
    where
      by : (v d c a y : ℤ) → v ≡ d +ℤ a *ℤ y → d ≡ c → a ≡ pos 0 → v +ℤ k ≡ pos 0 → c +ℤ k ≡ pos 0
      by v d c a y h i z e = let m = ap (λ w. w *ℤ y) z in omega (arith, linear, h, i, m, e)

  -- and then it is 0 where the rows hold
  zero_where : (cs : List ℤ) (k : ℤ) → VanishesOnAll (n + 1) P cs k → get_or cs n (pos 0) ≡ pos 0 → (p : List ℤ) → HoldRows rest p
      → dot cs p +ℤ k ≡ pos 0
  zero_where cs k v none p holds =
      by (dot cs p) (dot (take n cs) p) (get_or cs n (pos 0)) (get_or p n (pos 0)) (dot_last n cs p v.long) none
      ((old.exact p).0 holds (take n cs) k (vanish_down cs k v none))
    where
      by : (v d a y : ℤ) → v ≡ d +ℤ a *ℤ y → a ≡ pos 0 → d +ℤ k ≡ pos 0 → v +ℤ k ≡ pos 0
      by v d a y h z e = let m = ap (λ w. w *ℤ y) z in omega (arith, linear, h, m, e)

  -- the rows hold where all forms are 0 that are 0 on P
  hold_where : (p : List ℤ) → ((cs : List ℤ) (k : ℤ) → VanishesOnAll (n + 1) P cs k → dot cs p +ℤ k ≡ pos 0) → HoldRows new p
  hold_where p zeros = (hold_padded (n + 1) rest p).1 ((old.exact p).1 (λ cs k v.
      ap (λ z. z +ℤ k) (sym (dot_wide cs p)) ∙ zeros (cs ++ pos 0 ∷ []) k (vanish_up cs k v)))

  hold_on_front : (q : List ℤ) → Q q → HoldRows rest q
  hold_on_front q at = (old.exact q).1 (λ cs k v. v.zero q at)

  -- ---- nothing is added
  module _ (free : IsFreeAtLast n P) where
    no_part : (cs : List ℤ) (k : ℤ) → VanishesOnAll (n + 1) P cs k → get_or cs n (pos 0) ≡ pos 0
    no_part cs k v = elim (zero_cases (get_or cs n (pos 0))) [
      | inl none ↦ none
      | inr other ↦ absurd (free (λ p long both. other
          (by (dot cs p) (dot cs (set p n (get_or p n (pos 0) +ℤ pos 1))) (get_or cs n (pos 0)) (get_or p n (pos 0))
          (dot-set cs p n (get_or p n (pos 0) +ℤ pos 1) (omega (arith, long)))
          (v.zero p both.0) (v.zero (set p n (get_or p n (pos 0) +ℤ pos 1)) both.1))))
    ]
      where
        by : (d e a y : ℤ) → e ≡ d +ℤ a *ℤ (y +ℤ pos 1 -ℤ y) → d +ℤ k ≡ pos 0 → e +ℤ k ≡ pos 0 → a ≡ pos 0
        by d e a y h i j = let m = simp expand at h in simp expand (omega (arith, linear, m, i, j))

    free_independent : AreIndependent (n + 1) new
    free_independent before r behind is implied =
        let s = split_map (padded (n + 1)) rest before r behind is in
        let parts = All-parts (IsForm g n) s.first (s.here ∷ s.rest) (subst (All (IsForm g n)) s.is widths) in
        let tail = All-tail (IsForm g n) s.here s.rest parts.1 in
        let head = All-head (IsForm g n) s.here s.rest parts.1 in
        old.independent s.first s.here s.rest s.is (λ q long holds.
        let p = insert q n (pos 0) in
        let wide = length-insert q n (pos 0) (omega arith) in
        let own = All-parts (λ o. HoldsRow o q) s.first s.rest holds in
        let first = (hold_padded (n + 1) s.first p).1 (hold_inserted g n s.first q (pos 0) parts.0 long own.0) in
        let last = (hold_padded (n + 1) s.rest p).1 (hold_inserted g n s.rest q (pos 0) tail long own.1) in
        let all = All-append (λ o. HoldsRow o p) before behind (rw s.before_is first) (rw s.behind_is last) in
        let here = implied p (omega (arith, wide)) all in
        (holds_inserted g n s.here q (pos 0) head long).0 ((holds_padded (n + 1) s.here p).0 (rw s.here_is at here)))

    pub hull_free : AreHullRows g (n + 1) P new
    hull_free = record {
      forms = padded_forms g n (n + 1) rest (omega arith) old.forms;
      independent = free_independent;
      some = some_left;
      exact = λ p. (
        (λ holds cs k v. zero_where cs k v (no_part cs k v) p ((hold_padded (n + 1) rest p).0 holds)),
        hold_where p,
      );
    }

  -- ---- an equation is added
  module _ (e : Row) (own : IsLastEquation g n P e) where
    abbrev a : ℤ
    a = coef_at e n

    unit_squared : a *ℤ a ≡ pos 1
    unit_squared = elim (unit_cases a own.unit) [ inl one ↦ plus a one | inr minus ↦ less a minus ]
      where
        plus : (a : ℤ) → a ≡ pos 1 → a *ℤ a ≡ pos 1
        plus a is = ap (λ w. w *ℤ w) is

        less : (a : ℤ) → a ≡ negsuc 0 → a *ℤ a ≡ pos 1
        less a is = ap (λ w. w *ℤ w) is

    e_zero : (p : List ℤ) → HoldsRow e p → value_at e p ≡ pos 0
    e_zero p h = (equation_holds e p own.form.kind).0 h

    -- a form less a multiple of the equation has no part in the last column
    zero_beside : (cs : List ℤ) (k : ℤ) → VanishesOnAll (n + 1) P cs k → (p : List ℤ) → HoldRows rest p → value_at e p ≡ pos 0
        → dot cs p +ℤ k ≡ pos 0
    zero_beside cs k v p holds here =
        let width : length cs ≡ length e.coefs = v.long ∙ sym own.form.formed.width in
        let wide = v.long in
        let b : ℤ = get_or cs n (pos 0) in
        let m : ℤ = neg_ℤ (b *ℤ a) in
        let ds : List ℤ = weighted_sum (pos 1) cs m e.coefs in
        let value : (x : List ℤ) → dot ds x ≡ pos 1 *ℤ dot cs x +ℤ m *ℤ dot e.coefs x =
        λ x. dot-weighted_sum (pos 1) cs m e.coefs x width in
        let none : get_or ds n (pos 0) ≡ pos 0 =
        get_or-weighted_sum (pos 1) cs m e.coefs n width (omega (arith, wide)) ∙ cancel b a unit_squared in
        let zero = zero_where ds (k +ℤ m *ℤ e.constant) (record {
          long = length-weighted_sum (pos 1) cs m e.coefs width ∙ v.long;
          zero = λ x at. sum m (dot ds x) (dot cs x) (dot e.coefs x) e.constant (value x) (v.zero x at) (own.zero x at);
        }) none p holds in
        back m (dot ds p) (dot cs p) (dot e.coefs p) e.constant (value p) zero here
      where
        cancel : (b a : ℤ) → a *ℤ a ≡ pos 1 → pos 1 *ℤ b +ℤ neg_ℤ (b *ℤ a) *ℤ a ≡ pos 0
        cancel b a one = let m = simp expand at (ap (λ w. b *ℤ w) one) in simp expand (omega (arith, linear, m))

        sum : (m d c f l : ℤ) → d ≡ pos 1 *ℤ c +ℤ m *ℤ f → c +ℤ k ≡ pos 0 → f +ℤ l ≡ pos 0 → d +ℤ (k +ℤ m *ℤ l) ≡ pos 0
        sum m d c f l h i j = let w = simp expand at (ap (λ w. m *ℤ w) j) in simp expand (omega (arith, linear, h, i, w))

        back : (m d c f l : ℤ) → d ≡ pos 1 *ℤ c +ℤ m *ℤ f → d +ℤ (k +ℤ m *ℤ l) ≡ pos 0 → f +ℤ l ≡ pos 0 → c +ℤ k ≡ pos 0
        back m d c f l h i j = let w = simp expand at (ap (λ w. m *ℤ w) j) in simp expand (omega (arith, linear, h, i, w))

    not_both : (z : ℤ) → z ≡ pos 1 → z ≡ pos 0 → ⊥
    not_both z i j = omega (arith, linear, i, j)

    -- it is not implied by the others
    first_needed : ¬ ((p : List ℤ) → length p ≡ n + 1 → HoldRows new p → HoldsRow e p)
    first_needed implied = old.some (λ q at.
        let long = front.short q at in
        let x = reached g n e own.form own.unit q long (pos 1) in
        let p = insert q n x.0 in
        let wide = length-insert q n x.0 (omega (arith, long)) in
        let all = (hold_padded (n + 1) rest p).1 (hold_inserted g n rest q x.0 widths long (hold_on_front q at)) in
        not_both (value_at e p) x.1 (e_zero p (implied p (omega (arith, wide, long)) all)))

    others_needed : (before : List Row) (r : Row) (behind : List Row) → new ≡ before ++ r ∷ behind
        → ¬ ((p : List ℤ) → length p ≡ n + 1 → HoldRows ((e ∷ before) ++ behind) p → HoldsRow r p)
    others_needed before r behind is implied =
        let s = split_map (padded (n + 1)) rest before r behind is in
        let parts = All-parts (IsForm g n) s.first (s.here ∷ s.rest) (subst (All (IsForm g n)) s.is widths) in
        let tail = All-tail (IsForm g n) s.here s.rest parts.1 in
        let head = All-head (IsForm g n) s.here s.rest parts.1 in
        old.independent s.first s.here s.rest s.is (λ q long holds.
        let x = reached g n e own.form own.unit q long (pos 0) in
        let p = insert q n x.0 in
        let wide = length-insert q n x.0 (omega arith) in
        let each = All-parts (λ o. HoldsRow o q) s.first s.rest holds in
        let first = (hold_padded (n + 1) s.first p).1 (hold_inserted g n s.first q x.0 parts.0 long each.0) in
        let last = (hold_padded (n + 1) s.rest p).1 (hold_inserted g n s.rest q x.0 tail long each.1) in
        let all = All-append (λ o. HoldsRow o p) before behind (rw s.before_is first) (rw s.behind_is last) in
        let with_e = All-cons (λ o. HoldsRow o p) e (before ++ behind) ((equation_holds e p own.form.kind).1 x.1) all in
        let here = implied p (omega (arith, wide)) with_e in
        (holds_inserted g n s.here q x.0 head long).0 ((holds_padded (n + 1) s.here p).0 (rw s.here_is at here)))

    with_independent : AreIndependent (n + 1) (e ∷ new)
    with_independent [] r behind is implied =
        let here : e ≡ r = cc in
        let rest_is : new ≡ behind = cc in
        first_needed (λ p long holds. subst (λ (o : Row). HoldsRow o p) (sym here)
        (implied p long (subst (λ (l : List Row). HoldRows l p) rest_is holds)))
    with_independent (b ∷ before) r behind is implied =
        let here : e ≡ b = cc in
        let rest_is : new ≡ before ++ r ∷ behind = cc in
        others_needed before r behind rest_is (λ p long holds. implied p long
        (subst (λ (o : Row). HoldRows ((o ∷ before) ++ behind) p) here holds))

    pub hull_with : AreHullRows g (n + 1) P (e ∷ new)
    hull_with = record {
      forms = All-cons (IsForm g (n + 1)) e new own.form (padded_forms g n (n + 1) rest (omega arith) old.forms);
      independent = with_independent;
      some = some_left;
      exact = λ p. (
        (λ holds cs k v. zero_beside cs k v p ((hold_padded (n + 1) rest p).0 (All-tail (λ o. HoldsRow o p) e new holds))
            (e_zero p (All-head (λ o. HoldsRow o p) e new holds))),
        (λ zeros. All-cons (λ o. HoldsRow o p) e new
            ((equation_holds e p own.form.kind).1 (zeros e.coefs e.constant (record { long = own.form.formed.width; zero = own.zero })))
            (hold_where p zeros)),
      );
    }
