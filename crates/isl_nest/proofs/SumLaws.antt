-- Turns and calls, summed over the numbers of a loop.
use Rattle.std.proofs.Common.{◌≡◌, ◌≢◌, ◌∙◌, refl, ap, arith, ℕ, ◌+◌, ◌*◌, ◌≤◌, ℤ, List, [], ◌∷◌, ◌++◌, length, length-append}
use Rattle.std.specs.List.{sum_by, Contains}
use Rattle.std.proofs.lemmas.List.Elements.{Contains-append_right}
use Rattle.std.proofs.lemmas.List.Sums.{sum_by-cons}
use Rattle.isl_loop.specs.Run.{each_in, idle_turn, Event}
use Rattle.isl_nest.proofs.AskedLaws.{first_in}

later_in : (x : ℤ) (xs : List ℤ) (y : ℤ) → Contains xs y → Contains (x ∷ xs) y
later_in x xs y c = Contains-append_right (x ∷ []) xs y c

-- nothing at each
pub sum_none : (t : ℤ → ℕ) (xs : List ℤ) → ((x : ℤ) → Contains xs x → t x ≡ 0) → sum_by t xs ≡ 0
sum_none t [] none = refl
sum_none t (x ∷ xs) none =
    let first = none x (first_in x xs) in
    let more = sum_none t xs (λ y c. none y (later_in x xs y c)) in
    let both = sum_by-cons t x xs in
    omega (arith, first, more, both)

-- at most so many times the calls at each
pub sum_most : (t : ℤ → ℕ) (f : ℤ → List Event) (times : ℕ) (xs : List ℤ)
    → ((x : ℤ) → Contains xs x → t x ≤ times * length (f x)) → sum_by t xs ≤ times * length (each_in f xs)
sum_most t f times [] most = omega arith
sum_most t f times (x ∷ xs) most =
    by (t x) (sum_by t xs) (sum_by t (x ∷ xs)) (length (f x)) (length (each_in f xs)) (length (f x ++ each_in f xs))
    (most x (first_in x xs)) (sum_most t f times xs (λ y c. most y (later_in x xs y c))) (sum_by-cons t x xs)
    (length-append (f x) (each_in f xs))
  where
    spread : (m n : ℕ) → times * (m + n) ≡ times * m + times * n
    spread m n = omega arith

    by : (a b s m n l : ℕ) → a ≤ times * m → b ≤ times * n → s ≡ a + b → l ≡ m + n → s ≤ times * l
    by a b s m n l first more sum long =
        let whole = ap (λ k. times * k) long ∙ spread m n in
        omega (arith, first, more, sum, whole)

-- something is called
pub some_length : (calls : List Event) → calls ≢ [] → 1 ≤ length calls
some_length [] some = absurd (some refl)
some_length (c ∷ calls) some = omega arith

pub some_idle : (calls : List Event) → calls ≢ [] → idle_turn calls ≡ 0
some_idle [] some = absurd (some refl)
some_idle (c ∷ calls) some = refl

pub some_each : (f : ℤ → List Event) (xs : List ℤ) (x : ℤ) → Contains xs x → ((y : ℤ) → Contains xs y → f y ≢ []) → each_in f xs ≢ []
some_each f [] x c some = absurd (by c)
  where
    by : Contains [] x → ⊥
    by (i, low, is) = absurd (omega (arith, low))
some_each f (y ∷ ys) x c some = joined (f y) (each_in f ys) (some y (first_in y ys))
  where
    joined : (calls more : List Event) → calls ≢ [] → calls ++ more ≢ []
    joined [] more some e = some refl
    joined (call ∷ calls) more some e = absurd (by e)
      where
        by : call ∷ calls ++ more ≡ [] → ⊥
        by e = let l = ap length e in omega (arith, l)
