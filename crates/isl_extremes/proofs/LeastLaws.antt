-- A first list is found place by place, and there is none where some place has no end.
use Rattle.std.proofs.Common.{◌≡◌, ◌⊎◌, inl, inr, refl, sym, ap, ◌∙◌, subst, arith, ℕ, zero, suc, ◌+◌, ◌<◌, ◌≤◌, ℤ, pos, ◌<ℤ◌, ◌≤ℤ◌}
use Rattle.std.proofs.Common.{◌-ℤ◌, ◌+ℤ◌}
use Rattle.std.proofs.Common.{List, [], ◌∷◌, length, get_or, take, unsigned_abs}
use Rattle.std.proofs.lemmas.Bool.{cases_lt}
use Rattle.std.proofs.lemmas.List.{get_or-take}
use Rattle.isl_math.proofs.Ring.{linear}
use Rattle.isl_math.proofs.OrderLaws.{IsBefore-cases, at_most_or_above}
use Rattle.isl_blocks.specs.declared.cases.Direction.{Direction}
use Rattle.isl_blocks.specs.declared.cases.Direction.TheVariants.{Before, After}
use Rattle.isl_blocks.specs.Cases.{DiffersAt}
use Rattle.isl_blocks.proofs.CaseLaws.{at_before, before_at}
use Rattle.isl_extremes.specs.Systems.{signed, IsAhead, IsFirst, Stands}

far_enough : (b y : ℤ) → (n : ℕ) × (y <ℤ (b +ℤ pos n))
far_enough b y = elim (at_most_or_above y b) [
  | inl l ↦ (1, omega (arith, linear))
  | inr g ↦ (unsigned_abs (y -ℤ b) + 1, omega (arith, linear))
]

-- ---- lists on either side
pub differs_same : (d : Direction) (i : ℕ) (xs ys : List ℤ) → DiffersAt d i xs ys → take i xs ≡ take i ys
differs_same Before i xs ys h = h.same
differs_same After i xs ys h = sym h.same

pub differs_less : (d : Direction) (i : ℕ) (xs ys : List ℤ) → DiffersAt d i xs ys
    → signed d (get_or xs i (pos 0)) <ℤ signed d (get_or ys i (pos 0))
differs_less Before i xs ys h = h.less
differs_less After i xs ys h = let l = h.less in omega (arith, linear)

pub differs_from : (d : Direction) (i : ℕ) (xs ys : List ℤ) → take i xs ≡ take i ys
    → signed d (get_or xs i (pos 0)) <ℤ signed d (get_or ys i (pos 0)) → DiffersAt d i xs ys
differs_from Before i xs ys same less = record { same = same; less = less }
differs_from After i xs ys same less = record { same = sym same; less = omega (arith, linear) }

pub ahead_at : (d : Direction) (xs ys : List ℤ) → length xs ≡ length ys → IsAhead d xs ys → (i : ℕ) × (i < length ys) × DiffersAt d i xs ys
ahead_at Before xs ys e h = before_at xs ys e h
ahead_at After xs ys e h =
    let at = before_at ys xs (sym e) h in
    let l = at.1 in
    (at.0, omega (arith, l, e), at.2)

pub at_ahead : (d : Direction) (xs ys : List ℤ) (i : ℕ) → length xs ≡ length ys → i < length ys → DiffersAt d i xs ys → IsAhead d xs ys
at_ahead Before xs ys i e l at = at_before xs ys i e l at
at_ahead After xs ys i e l at = at_before ys xs i (sym e) (omega (arith, e, l)) at

ahead_cases : (d : Direction) (xs ys : List ℤ) → length xs ≡ length ys → IsAhead d xs ys ⊎ ((xs ≡ ys) ⊎ IsAhead d ys xs)
ahead_cases Before xs ys e = IsBefore-cases xs ys e
ahead_cases After xs ys e = elim (IsBefore-cases xs ys e) [
  | inl before ↦ inr (inr before)
  | inr other ↦ elim other [ inl same ↦ inr (inl same) | inr behind ↦ inl behind ]
]

-- ---- the first numbers
one_more : (x y : ℤ) (xs ys : List ℤ) (i : ℕ) → x ≡ y → take i xs ≡ take i ys → take (suc i) (x ∷ xs) ≡ take (suc i) (y ∷ ys)
one_more x y xs ys i s t = cc

pub fewer : (xs ys : List ℤ) (i j : ℕ) → j ≤ i → take i xs ≡ take i ys → take j xs ≡ take j ys
fewer xs ys i zero l e = refl
fewer xs ys zero (suc j) l e = absurd (omega arith)
fewer [] [] (suc i) (suc j) l e = refl
fewer [] (y ∷ ys) (suc i) (suc j) l e = cc
fewer (x ∷ xs) [] (suc i) (suc j) l e = cc
fewer (x ∷ xs) (y ∷ ys) (suc i) (suc j) l e =
    let first : x ≡ y = cc in
    let rest : take i xs ≡ take i ys = cc in
    one_more x y xs ys j first (fewer xs ys i j (omega arith) rest)

number_same : (xs ys : List ℤ) (i j : ℕ) → j < i → take i xs ≡ take i ys → get_or xs j (pos 0) ≡ get_or ys j (pos 0)
number_same xs ys i j l e = sym (get_or-take i xs j (pos 0) l) ∙ ap (λ zs. get_or zs j (pos 0)) e ∙ get_or-take i ys j (pos 0) l

-- where two lists have the same numbers up to a place, the same lists are ahead of them at earlier places
moved : (d : Direction) (i j : ℕ) (us ys zs : List ℤ) → j < i → take i zs ≡ take i ys → DiffersAt d j us zs → DiffersAt d j us ys
moved d i j us ys zs l e before =
    differs_from d j us ys (differs_same d j us zs before ∙ fewer zs ys i j (omega (arith, l)) e)
    (let n = number_same zs ys i j l e in
    let m = differs_less d j us zs before in
    subst (λ z. signed d (get_or us j (pos 0)) <ℤ signed d z) n m)

module _ (d : Direction) (w : ℕ) (P : List ℤ → Type 0) (long : (ys : List ℤ) → P ys → length ys ≡ w) where
  -- all lists stand before the first place was looked at
  pub stands_first : (ys : List ℤ) → P ys → Stands d P 0 ys
  stands_first ys p = record { is = p; unbeaten = λ j zs l q before. absurd (omega (arith, l)) }

  -- what stands at one more place
  pub stands_more : (i : ℕ) (ys : List ℤ) → Stands d P i ys → ((zs : List ℤ) → P zs → ¬ DiffersAt d i zs ys) → Stands d P (i + 1) ys
  stands_more i ys s none = record {
    is = s.is;
    unbeaten = λ j zs l p before. elim (cases_lt j i) [
      | inl early ↦ s.unbeaten j zs early p before
      | inr late ↦ let same : j ≡ i = omega (arith, l, late) in none zs p (subst (λ k. DiffersAt d k zs ys) same before)
    ];
  }

  pub stands_less : (i : ℕ) (ys : List ℤ) → Stands d P (i + 1) ys → Stands d P i ys × ((zs : List ℤ) → P zs → ¬ DiffersAt d i zs ys)
  stands_less i ys s = (
    record { is = s.is; unbeaten = λ j zs l p before. s.unbeaten j zs (omega (arith, l)) p before },
    λ zs p before. s.unbeaten i zs (omega arith) p before,
  )

  -- what stands at all places is first
  pub first_from : (ys : List ℤ) → Stands d P w ys → IsFirst d P ys
  first_from ys s = (
    s.is,
    λ us q before.
        let at = ahead_at d us ys (long us q ∙ sym (long ys s.is)) before in
        s.unbeaten at.0 us (let l = at.1 in let n = long ys s.is in omega (arith, l, n)) q at.2,
  )

  pub first_stands : (ys : List ℤ) → IsFirst d P ys → Stands d P w ys
  first_stands ys first = record {
    is = first.0;
    unbeaten = λ j zs l p before.
        let n = long ys first.0 in
        first.1 zs p (at_ahead d zs ys j (long zs p ∙ sym n) (omega (arith, l, n)) before);
  }

  -- what is ahead of one that stands, at a later place, stands
  stands_too : (i : ℕ) (ys zs : List ℤ) → Stands d P i ys → P zs → take i zs ≡ take i ys → Stands d P i zs
  stands_too i ys zs s p at = record {
    is = p;
    unbeaten = λ j us l q before. s.unbeaten j us l q (moved d i j us ys zs l at before);
  }

  -- ---- a first one
  module _
      (decided : (i : ℕ) (ys : List ℤ) → i < w → Stands d P i ys
      → ((zs : List ℤ) × P zs × DiffersAt d i zs ys) ⊎ ((zs : List ℤ) → P zs → ¬ DiffersAt d i zs ys))
      (low : (i : ℕ) (ys : List ℤ) → i < w → Stands d P i ys
      → (b : ℤ) × ((zs : List ℤ) → Stands d P i zs → take i zs ≡ take i ys → b ≤ℤ signed d (get_or zs i (pos 0)))) where
    one_place : (i : ℕ) → i < w → (b : ℤ) (n : ℕ) (ys : List ℤ) → Stands d P i ys
        → ((zs : List ℤ) → Stands d P i zs → take i zs ≡ take i ys → b ≤ℤ signed d (get_or zs i (pos 0)))
        → signed d (get_or ys i (pos 0)) <ℤ (b +ℤ pos n)
        → (zs : List ℤ) × Stands d P (i + 1) zs
    one_place i inside b zero ys s bound near = let l = bound ys s refl in absurd (omega (arith, linear))
    one_place i inside b (suc n) ys s bound near = elim (decided i ys inside s) [
      | inr none ↦ (ys, stands_more i ys s none)
      | inl some ↦
          let same = differs_same d i some.0 ys some.2 in
          let here = stands_too i ys some.0 s some.1 same in
          let m = differs_less d i some.0 ys some.2 in
          one_place i inside b n some.0 here (λ zs t e. bound zs t (e ∙ same)) (omega (arith, linear))
    ]

    some_place : (i : ℕ) → i ≤ w → (ys : List ℤ) → P ys → (zs : List ℤ) × Stands d P i zs
    some_place zero inside ys p = (ys, stands_first ys p)
    some_place (suc i) inside ys p =
        let before = some_place i (omega arith) ys p in
        let b = low i before.0 (omega arith) before.1 in
        let near = far_enough b.0 (signed d (get_or before.0 i (pos 0))) in
        let found = one_place i (omega arith) b.0 near.0 before.0 before.1 b.1 near.1 in
        let n : i + 1 ≡ suc i = omega arith in
        (found.0, subst (λ k. Stands d P k found.0) n found.1)

    pub some_first : (ys : List ℤ) → P ys → (zs : List ℤ) × IsFirst d P zs
    some_first ys p =
        let found = some_place w (omega arith) ys p in
        (found.0, first_from found.0 found.1)

  -- ---- none
  -- where lists that stand go on for ever at one place, none is first
  pub none_first : (i : ℕ) (ys : List ℤ) → i < w → Stands d P i ys
      → ((b : ℤ) → (zs : List ℤ) × P zs × (take i zs ≡ take i ys) × (signed d (get_or zs i (pos 0)) <ℤ b))
      → (us : List ℤ) → ¬ IsFirst d P us
  none_first i ys inside s down us first =
      elim (ahead_cases d us ys (long us p ∙ sym (long ys s.is))) [
        | inl before ↦
            let at = ahead_at d us ys (long us p ∙ sym (long ys s.is)) before in
            elim (cases_lt at.0 i) [
              | inl early ↦ s.unbeaten at.0 us early p at.2
              | inr late ↦ further (fewer us ys at.0 i late (differs_same d at.0 us ys at.2))
            ]
        | inr other ↦ elim other [
          | inl same ↦ further (ap (take i) same)
          | inr behind ↦ first.1 ys s.is behind
        ]
      ]
    where
      p : P us
      p = first.0

      further : take i us ≡ take i ys → ⊥
      further same =
          let z = down (signed d (get_or us i (pos 0))) in
          let a = long z.0 z.1 in
          let b = long us p in
          first.1 z.0 z.1 (at_ahead d z.0 us i (a ∙ sym b) (omega (arith, b, inside)) (differs_from d i z.0 us (z.2 ∙ sym same) z.3))
