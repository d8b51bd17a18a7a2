-- The turns of a loop, and what is listed turn by turn.
use Rattle.std.proofs.Common.{◌≡◌, ◌↔◌, ◌⊎◌, inl, inr, refl, sym, ap, subst, arith, ℕ, zero, suc, ◌+◌}
use Rattle.std.proofs.Common.{◌-◌, ◌<◌, ℤ, pos, negsuc, ◌+ℤ◌, ◌-ℤ◌, ◌*ℤ◌, ◌<ℤ◌, ◌≤ℤ◌, List, [], ◌∷◌, ◌++◌, length, get_or, length-append}
use Rattle.std.specs.List.{AllPairs, Contains}
use Rattle.std.proofs.lemmas.Bool.{cases_lt}
use Rattle.std.proofs.lemmas.List.{get_or_append_left, get_or-append_right}
use Rattle.std.proofs.lemmas.List.Elements.{Contains-append_left, Contains-append_right, Contains-append_cases, Contains-push}
use Rattle.std.proofs.lemmas.List.Elements.{Contains-push_cases, Contains-get_or}
use Rattle.isl_math.specs.Divide.{floor_div, floor_mod}
use Rattle.isl_math.proofs.Ring.{expand, linear}
use Rattle.isl_math.proofs.DivideLaws.{at_most_floor, floor_mod_bounds, floor_split, floor_unique}
use Rattle.isl_math.proofs.OrderLaws.{*ℤ-≤ℤ}
use Rattle.isl_loop.specs.Run.{each_in}
use Rattle.isl_loop.specs.Turns.{numbers_from, at_least_none, turn_count, turns}

-- two lists behind one another
pub pairs_append : {X : Type 0} (R : X → X → Type 0) (xs ys : List X) → AllPairs R xs → AllPairs R ys
    → ((x y : X) → Contains xs x → Contains ys y → R x y) → AllPairs R (xs ++ ys)
pairs_append R xs ys p q cross i j d below inside =
    let long = length-append xs ys in
    elim (cases_lt j (length xs)) [
      | inl early ↦ rw (get_or_append_left xs ys d i (omega arith), get_or_append_left xs ys d j early) (p i j d below early)
      | inr late ↦ elim (cases_lt i (length xs)) [
        | inl early ↦ rw (get_or_append_left xs ys d i early, get_or-append_right xs ys (length xs) j d refl late)
            (cross (get_or xs i d) (get_or ys (j - length xs) d) (Contains-get_or xs i d early)
            (Contains-get_or ys (j - length xs) d (omega arith)))
        | inr later ↦ rw (get_or-append_right xs ys (length xs) i d refl later, get_or-append_right xs ys (length xs) j d refl late)
            (q (i - length xs) (j - length xs) d (omega arith) (omega arith))
      ]
    ]

pub nothing : {X : Type 0} (x : X) → ¬ Contains [] x
nothing x c = let l = c.1 in omega (arith, l)

pub contains_one : {X : Type 0} (y x : X) → Contains (y ∷ []) x → y ≡ x
contains_one {X} y x c = elim (Contains-push_cases [] y x c) [
  | inl none ↦ absurd (nothing x none)
  | inr e ↦ e
]

-- what is listed turn by turn is what is listed at some turn
pub each_exact : {X : Type 0} (Q : ℤ → X → Type 0) (f : ℤ → List X) (xs : List ℤ)
    → ((x : ℤ) → Contains xs x → (t : X) → Contains (f x) t ↔ Q x t)
    → (t : X) → Contains (each_in f xs) t ↔ ((x : ℤ) × Contains xs x × Q x t)
each_exact Q f [] h t = ((λ c. absurd (nothing t c)), (λ z. absurd (nothing z.0 z.1)))
each_exact Q f (x ∷ xs) h t =
    let more = each_exact Q f xs (λ y c. h y (Contains-append_right (x ∷ []) xs y c)) t in (
      (λ c. elim (Contains-append_cases (f x) (each_in f xs) t c) [
        | inl now ↦ (
          x,
          Contains-append_left (x ∷ []) xs x (Contains-push [] x),
          (h x (Contains-append_left (x ∷ []) xs x (Contains-push [] x)) t).0 now,
        )
        | inr later ↦ let z = more.0 later in (z.0, Contains-append_right (x ∷ []) xs z.0 z.1, z.2)
      ]),
      (λ z. elim (Contains-append_cases (x ∷ []) xs z.0 z.1) [
        | inl now ↦ Contains-append_left (f x) (each_in f xs) t ((h x (Contains-append_left (x ∷ []) xs x (Contains-push [] x)) t).1
            (subst (λ y. Q y t) (sym (contains_one x z.0 now)) z.2))
        | inr later ↦ Contains-append_right (f x) (each_in f xs) t (more.1 (z.0, later, z.2))
      ]),
    )

pub above : (x : ℤ) (xs : List ℤ) → AllPairs (λ a b. a <ℤ b) (x ∷ xs) → (y : ℤ) → Contains xs y → x <ℤ y
above x xs up y c = let l = c.1 in subst (λ z. x <ℤ z) c.2 (up 0 (suc c.0) y (omega arith) (omega (arith, l)))

-- pairs within a turn, and pairs of an earlier and a later one
pub each_pairs : {X : Type 0} (Q : ℤ → X → Type 0) (R : X → X → Type 0) (f : ℤ → List X) (xs : List ℤ)
    → ((x : ℤ) → Contains xs x → (t : X) → Contains (f x) t ↔ Q x t) → AllPairs (λ a b. a <ℤ b) xs
    → ((x : ℤ) → Contains xs x → AllPairs R (f x))
    → ((x y : ℤ) (s t : X) → x <ℤ y → Q x s → Q y t → R s t) → AllPairs R (each_in f xs)
each_pairs Q R f [] h up within across = λ i j d below inside. absurd (omega (arith, below, inside))
each_pairs Q R f (x ∷ xs) h up within across =
    let first : Contains (x ∷ xs) x = Contains-append_left (x ∷ []) xs x (Contains-push [] x) in
    let later : (y : ℤ) → Contains xs y → Contains (x ∷ xs) y = λ y c. Contains-append_right (x ∷ []) xs y c in
    pairs_append R (f x) (each_in f xs) (within x first)
    (each_pairs Q R f xs (λ y c. h y (later y c))
    (λ i j d below inside. up (suc i) (suc j) d (omega (arith, below)) (omega (arith, inside)))
    (λ y c. within y (later y c)) across)
    (λ s t i j. let z = (each_exact Q f xs (λ y c. h y (later y c)) t).0 j in
    across x z.0 s t (above x xs up z.0 z.1) ((h x first s).0 i) z.2)

-- ---- numbers a step apart
pub from_exact : (first step : ℤ) (count : ℕ) (x : ℤ) → Contains (numbers_from first step count) x
    → (n : ℕ) × (n < count) × (x ≡ first +ℤ step *ℤ pos n)
from_exact first step zero x c = absurd (nothing x c)
from_exact first step (suc count) x c = elim (Contains-append_cases (first ∷ []) (numbers_from (first +ℤ step) step count) x c) [
  | inl now ↦ let e = contains_one first x now in (0, omega arith, simp expand (omega (arith, linear, e)))
  | inr later ↦ let z = from_exact (first +ℤ step) step count x later in let e = z.2 in
      (z.0 + 1, (let l = z.1 in omega (arith, l)), simp expand (omega (arith, linear, e)))
]

pub from_contains : (first step : ℤ) (count n : ℕ) → n < count → Contains (numbers_from first step count) (first +ℤ step *ℤ pos n)
from_contains first step zero n l = absurd (omega (arith, l))
from_contains first step (suc count) zero l =
    subst (Contains (first ∷ numbers_from (first +ℤ step) step count)) (simp expand (omega (arith, linear)))
    (Contains-append_left (first ∷ []) (numbers_from (first +ℤ step) step count) first (Contains-push [] first))
from_contains first step (suc count) (suc n) l =
    let more = from_contains (first +ℤ step) step count n (omega (arith, l)) in
    subst (Contains (first ∷ numbers_from (first +ℤ step) step count)) (simp expand (omega (arith, linear)))
    (Contains-append_right (first ∷ []) (numbers_from (first +ℤ step) step count) (first +ℤ step +ℤ step *ℤ pos n) more)

-- they ascend
pub from_up : (first step : ℤ) (count : ℕ) → pos 0 <ℤ step → AllPairs (λ a b. a <ℤ b) (numbers_from first step count)
from_up first step zero p = λ i j d below inside. absurd (omega (arith, below, inside))
from_up first step (suc count) p =
    pairs_append (λ a b. a <ℤ b) (first ∷ []) (numbers_from (first +ℤ step) step count)
    (λ i j d below inside. absurd (omega (arith, below, inside))) (from_up (first +ℤ step) step count p)
    (λ x y i j.
    let e = contains_one first x i in
    let z = from_exact (first +ℤ step) step count y j in
    let f = z.2 in
    let m = times_least step z.0 p in
    omega (arith, linear, e, f, m, p))
  where
    times_least : (k : ℤ) (n : ℕ) → pos 0 <ℤ k → pos 0 ≤ℤ (k *ℤ pos n)
    times_least k n p = let h = *ℤ-≤ℤ k (pos 0) (pos n) (omega (arith, linear, p)) (omega (arith, linear)) in omega (arith, linear, h)

-- the turns of a loop: from low to high, a step apart
pub turns_exact : (low high step x : ℤ) → pos 0 <ℤ step
    → Contains (turns low high step) x ↔ ((n : ℕ) × (x ≡ low +ℤ step *ℤ pos n) × (x ≤ℤ high))
turns_exact low high step x p = (
  (λ c.
      let z = from_exact low step (turn_count low high step) x c in
      let few = count_bound (floor_div (high -ℤ low) step) z.0 z.1 in
      let m = (at_most_floor (high -ℤ low) step (pos z.0) p).0 few in
      let e = z.2 in
      (z.0, e, omega (arith, linear, e, m))),
  (λ z.
      let e = z.1 in
      let l = z.2 in
      let few = (at_most_floor (high -ℤ low) step (pos z.0) p).1 (omega (arith, linear, e, l)) in
      subst (Contains (turns low high step)) (sym e)
      (from_contains low step (turn_count low high step) z.0 (bound_count (floor_div (high -ℤ low) step) z.0 few))),
)
  where
    count_bound : (q : ℤ) (n : ℕ) → n < at_least_none (q +ℤ pos 1) → pos n ≤ℤ q
    count_bound q n l = by (q +ℤ pos 1) refl l
      where
        by : (r : ℤ) → q +ℤ pos 1 ≡ r → n < at_least_none r → pos n ≤ℤ q
        by (pos m) e l = omega (arith, linear, e, l)
        by (negsuc m) e l = absurd (omega (arith, l))

    bound_count : (q : ℤ) (n : ℕ) → pos n ≤ℤ q → n < at_least_none (q +ℤ pos 1)
    bound_count q n l = by (q +ℤ pos 1) refl
      where
        by : (r : ℤ) → q +ℤ pos 1 ≡ r → n < at_least_none r
        by (pos m) e = omega (arith, linear, e, l)
        by (negsuc m) e = absurd (omega (arith, linear, e, l))

-- ---- the first turn, and those behind it
pub turns_first : (x high step : ℤ) → pos 0 <ℤ step → x ≤ℤ high → turns x high step ≡ x ∷ turns (x +ℤ step) high step
turns_first x high step p l =
    let q = floor_div (high -ℤ x) step in
    let split = floor_split (high -ℤ x) step p in
    let bounds = floor_mod_bounds (high -ℤ x) step p in
    let low = bounds.0 in
    let small = bounds.1 in
    let one_less : q -ℤ pos 1 ≡ floor_div (high -ℤ (x +ℤ step)) step =
    (floor_unique (high -ℤ (x +ℤ step)) step (q -ℤ pos 1) (floor_mod (high -ℤ x) step)
    (simp expand (omega (arith, linear, split))) low small).0 in
    let some : pos 0 ≤ℤ q = (at_most_floor (high -ℤ x) step (pos 0) p).1 (omega (arith, linear, l)) in
    ap (λ (n : ℕ). numbers_from x step n)
    (count_more (q +ℤ pos 1) (floor_div (high -ℤ (x +ℤ step)) step +ℤ pos 1)
    (omega (arith, linear, one_less, some)) (omega (arith, linear, one_less)))
  where
    count_more : (a b : ℤ) → pos 0 ≤ℤ b → a ≡ b +ℤ pos 1 → at_least_none a ≡ suc (at_least_none b)
    count_more (pos m) (pos n) l e = omega (arith, linear, e)
    count_more (negsuc m) (pos n) l e = absurd (omega (arith, linear, e))
    count_more a (negsuc n) l e = absurd (omega (arith, linear, l))

pub turns_none : (low high step : ℤ) → pos 0 <ℤ step → high <ℤ low → turns low high step ≡ []
turns_none low high step p l =
    ap (λ (n : ℕ). numbers_from low step n) (count_none (floor_div (high -ℤ low) step) (few (floor_div (high -ℤ low) step) refl))
  where
    at_least_or_below : (q : ℤ) → (pos 0 ≤ℤ q) ⊎ (q <ℤ pos 0)
    at_least_or_below (pos n) = inl (omega (arith, linear))
    at_least_or_below (negsuc n) = inr (omega (arith, linear))

    few : (q : ℤ) → q ≡ floor_div (high -ℤ low) step → q <ℤ pos 0
    few q e = elim (at_least_or_below q) [
      | inl more ↦ let zero_most = (at_most_floor (high -ℤ low) step (pos 0) p).0 (rw e at more) in
          absurd (omega (arith, linear, zero_most, l))
      | inr less ↦ less
    ]

    count_none : (q : ℤ) → q <ℤ pos 0 → at_least_none (q +ℤ pos 1) ≡ 0
    count_none q l = by (q +ℤ pos 1) refl
      where
        by : (r : ℤ) → q +ℤ pos 1 ≡ r → at_least_none r ≡ 0
        by (pos m) e = omega (arith, linear, e, l)
        by (negsuc m) e = refl
