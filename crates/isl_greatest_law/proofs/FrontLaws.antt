-- A greatest list is found number by number; where the numbers go up for ever behind a greatest front there is none.
use Rattle.std.proofs.Common.{◌≡◌, ◌⊎◌, inl, inr, refl, sym, ap, ◌∙◌, subst, arith, ℕ, zero, suc, ◌+◌, ◌<◌, ◌≤◌, ℤ, pos, ◌<ℤ◌, ◌≤ℤ◌}
use Rattle.std.proofs.Common.{List, [], ◌∷◌, ◌++◌, length, Option, Some, None}
use Rattle.std.proofs.lemmas.List.{append_assoc, append-nil, length-append}
use Rattle.isl_math.proofs.Ring.{linear}
use Rattle.isl_math.specs.Order.{IsBefore}
use Rattle.isl_math.proofs.OrderLaws.{IsBefore-cases, IsBefore_irrefl, IsBefore_asym, cases_ℤ}
use Rattle.isl_greatest_law.specs.Front.{Begins, GivesGreatest, IsGreatestFront, LeadsBy, IsGreatestOf, IsGreatest}

-- ---- lists that go on
-- behind fronts of one length, what comes before
before_front : (a b x y : List ℤ) → length a ≡ length b → IsBefore a b → IsBefore (a ++ x) (b ++ y)
before_front [] b x y e h = absurd h
before_front (u ∷ a) [] x y e h = absurd h
before_front (u ∷ a) (v ∷ b) x y e (inl l) = inl l
before_front (u ∷ a) (v ∷ b) x y e (inr r) = inr (r.0, before_front a b x y (omega arith) r.1)

before_behind : (a x y : List ℤ) → IsBefore x y → IsBefore (a ++ x) (a ++ y)
before_behind [] x y h = h
before_behind (u ∷ a) x y h = inr (refl, before_behind a x y h)

-- lists with fronts of one length: the fronts tell, or they are the same and the rests tell
front_cases : (a b x y : List ℤ) → length a ≡ length b → IsBefore (a ++ x) (b ++ y) → IsBefore a b ⊎ ((a ≡ b) × IsBefore x y)
front_cases [] [] x y e h = inr (refl, h)
front_cases [] (v ∷ b) x y e h = absurd (omega arith)
front_cases (u ∷ a) [] x y e h = absurd (omega arith)
front_cases (u ∷ a) (v ∷ b) x y e (inl l) = inl (inl l)
front_cases (u ∷ a) (v ∷ b) x y e (inr r) = elim (front_cases a b x y (omega arith) r.1) [
  | inl before ↦ inl (inr (r.0, before))
  | inr same ↦ inr (ap₂' u v a b r.0 same.0, same.1)
]
  where
    ap₂' : (u v : ℤ) (a b : List ℤ) → u ≡ v → a ≡ b → (u ∷ a) ≡ (v ∷ b)
    ap₂' u v a b p q = cc

-- a list of two parts, the first with so many numbers
split_at : (ys : List ℤ) (n : ℕ) → n ≤ length ys → (a : List ℤ) × (x : List ℤ) × (length a ≡ n) × (ys ≡ a ++ x)
split_at ys zero l = ([], ys, refl, refl)
split_at [] (suc n) l = absurd (omega arith)
split_at (y ∷ ys) (suc n) l = let p = split_at ys n (omega arith) in (y ∷ p.0, p.1, ap suc p.2, ap (λ zs. y ∷ zs) p.3)

module _ (w : ℕ) (P : List ℤ → Type 0) (long : (ys : List ℤ) → P ys → length ys ≡ w) where
  -- a front of no number
  pub leads_first : LeadsBy P []
  leads_first ys p = record { begins = (ys, p); greatest = λ other e b before. before }

  -- one number more: the greatest that goes on
  pub leads_more : (front : List ℤ) (z : ℤ) → LeadsBy P front → IsGreatestOf (λ u. Begins P (front ++ u ∷ [])) z → LeadsBy P (front ++ z ∷ [])
  leads_more front z leads most ys p = record {
    begins = most.is;
    greatest = λ other e b before.
        let n = length-append front (z ∷ []) in
        let parts = split_at other (length front) (omega (arith, e, n)) in
        let whole = length-append parts.0 parts.1 in
        let one : length parts.1 ≡ 1 = omega (arith, e, n, whole, parts.2, ap length parts.3) in
        by parts.0 parts.1 other parts.2 one parts.3 b before;
  }
    where
      here : IsGreatestFront P front
      here = leads ys p

      by : (a x other : List ℤ) → length a ≡ length front → length x ≡ 1 → other ≡ a ++ x → Begins P other → ¬ IsBefore (front ++ z ∷ []) other
      by a [] other e one is b before = absurd (omega arith)
      by a (u ∷ v ∷ x) other e one is b before = absurd (omega arith)
      by a (u ∷ []) other e one is b before =
          elim (front_cases front a (z ∷ []) (u ∷ []) (sym e) (subst (λ t. IsBefore (front ++ z ∷ []) t) is before)) [
            | inl earlier ↦
                here.greatest a e ((u ∷ []) ++ b.0, subst P (ap (λ t. t ++ b.0) is ∙ append_assoc a (u ∷ []) b.0) b.1) earlier
            | inr same ↦ elim same.1 [
              | inl less ↦
                  let go : Begins P (front ++ u ∷ []) = subst (λ t. Begins P (t ++ u ∷ [])) (sym same.0) (subst (Begins P) is b) in
                  let m = most.greatest u go in
                  absurd (omega (arith, linear))
              | inr other ↦ other.1
            ]
          ]

  -- a front of all numbers
  pub leads_last : (front : List ℤ) → length front ≡ w → Begins P front → LeadsBy P front → IsGreatest P front
  leads_last front e begun leads =
      let here = leads (front ++ begun.0) begun.1 in
      let rest = here.begins in
      let all = long (front ++ rest.0) rest.1 in
      let n = length-append front rest.0 in (
        subst P (nothing rest.0 (omega (arith, all, n, e)) ∙ append-nil front) rest.1,
        λ zs q before. here.greatest zs (long zs q ∙ sym e) ([], subst P (sym (append-nil zs)) q) before,
      )
    where
      nothing : (rest : List ℤ) → length rest ≡ 0 → front ++ rest ≡ front ++ []
      nothing [] z = refl
      nothing (r ∷ rest) z = absurd (omega arith)

  -- no number goes on behind a greatest front that is not whole: there is no list of P
  pub leads_none : (front : List ℤ) → length front < w → LeadsBy P front → ((z : ℤ) → ¬ Begins P (front ++ z ∷ [])) → (ys : List ℤ) → ¬ P ys
  leads_none front l leads none ys p = by (leads ys p).begins
    where
      by : Begins P front → ⊥
      by ([], q) = let n = long (front ++ []) q in let m = length-append front [] in omega (arith, n, m, l)
      by (z ∷ rest, q) = none z (rest, subst P (sym (append_assoc front (z ∷ []) rest)) q)

  -- the numbers go up for ever behind a greatest front: no list of P is greatest
  leads_up : (front : List ℤ) → length front < w → LeadsBy P front
      → ((b : ℤ) → (z : ℤ) × (b <ℤ z) × Begins P (front ++ z ∷ [])) → (ys : List ℤ) → ¬ IsGreatest P ys
  leads_up front l leads up ys most =
      let n = long ys most.0 in
      let parts = split_at ys (length front) (omega (arith, n, l)) in
      let whole = length-append parts.0 parts.1 in
      by parts.0 parts.1 parts.2 parts.3 (omega (arith, l, n, whole, parts.2, ap length parts.3))
    where
      by : (a x : List ℤ) → length a ≡ length front → ys ≡ a ++ x → 0 < length x → ⊥
      by a [] e is some = absurd (omega arith)
      by a (u ∷ x) e is some =
          let here = leads ys most.0 in
          let z = up u in
          let rest = z.2 in
          let higher : List ℤ = (front ++ z.0 ∷ []) ++ rest.0 in
          elim (IsBefore-cases a front e) [
            | inl before ↦
                most.1 higher rest.1 (subst (λ t. IsBefore ys t) (sym (append_assoc front (z.0 ∷ []) rest.0))
                (subst (λ t. IsBefore t (front ++ z.0 ∷ rest.0)) (sym is)
                (before_front a front (u ∷ x) (z.0 ∷ rest.0) e before)))
            | inr other ↦ elim other [
              | inl same ↦
                  most.1 higher rest.1 (subst (λ t. IsBefore ys t) (sym (append_assoc front (z.0 ∷ []) rest.0))
                  (subst (λ t. IsBefore t (front ++ z.0 ∷ rest.0)) (sym (is ∙ ap (λ t. t ++ u ∷ x) same))
                  (before_behind front (u ∷ x) (z.0 ∷ rest.0) (inl z.1))))
              | inr behind ↦ here.greatest a e (u ∷ x, subst P is most.0) behind
            ]
          ]

  -- there are lists of P then, and none is the greatest
  pub leads_away : (front : List ℤ) → length front < w → LeadsBy P front
      → ((b : ℤ) → (z : ℤ) × (b <ℤ z) × Begins P (front ++ z ∷ [])) → (r : Option (List ℤ)) → ¬ GivesGreatest P r
  leads_away front l leads up None none = let z = up (pos 0) in none ((front ++ z.0 ∷ []) ++ z.2.0) z.2.1
  leads_away front l leads up (Some ys) most = leads_up front l leads up ys most
