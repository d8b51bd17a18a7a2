-- Lists without a range of columns.
use Rattle.std.proofs.Common.{◌≡◌, ◌≢◌, ◌⊎◌, inl, inr, refl, sym, ap, ap₂, ◌∙◌, arith, true, false, ℕ, suc, ◌+◌, ◌-◌, ◌<◌, ◌≤◌, ℤ, List, []}
use Rattle.std.proofs.Common.{◌∷◌, ◌++◌, length, get_or}
use Rattle.std.specs.Prelude.{AllPairs, nat_eq}
use Rattle.std.specs.List.{All, range_with_len}
use Rattle.std.proofs.lemmas.Bool.{eq-eqb}
use Rattle.std.proofs.lemmas.List.{append-nil}
use Rattle.std.proofs.lemmas.List.FromFn.{length-range_with_len, get_or-range_with_len}
use Rattle.std.proofs.lemmas.List.Folds.{list_any_at}
use Rattle.isl_elim.specs.Elimination.{without, without_from}
use Rattle.isl_elim.proofs.KeptLaws.{without-append, without-parts}
use Rattle.isl_elim.proofs.OthersLaws.{among, not_among}

-- ---- which columns are in the range
pub among_inside : (j a n : ℕ) → a ≤ j → j < a + n → among j (range_with_len a n) ≡ true
among_inside j a n low high =
    let i = j - a in
    let long = length-range_with_len a n in
    let at = get_or-range_with_len a n i 0 (omega arith) in
    list_any_at (λ c. nat_eq c j) (range_with_len a n) i 0 (omega (arith, long))
    (eq-eqb (get_or (range_with_len a n) i 0) j (omega (arith, at)))

pub among_outside : (j a n : ℕ) → (j < a) ⊎ (a + n ≤ j) → among j (range_with_len a n) ≡ false
among_outside j a n out = not_among j (range_with_len a n) (λ k d l e.
    let long = length-range_with_len a n in
    let at = get_or-range_with_len a n k d (omega (arith, long)) in
    elim out [ inl low ↦ omega (arith, at, e, low) | inr high ↦ omega (arith, at, e, long, high) ])

pub range_distinct : (a n : ℕ) → AllPairs (λ x y. x ≢ y) (range_with_len a n)
range_distinct a n = λ i j z l m e.
    let long = length-range_with_len a n in
    let first = get_or-range_with_len a n i z (omega (arith, long)) in
    let second = get_or-range_with_len a n j z (omega (arith, long)) in
    omega (arith, first, second, e)

pub range_below : (a n columns : ℕ) → a + n ≤ columns → All (λ col. col < columns) (range_with_len a n)
range_below a n columns h = λ k d l.
    let long = length-range_with_len a n in
    let at = get_or-range_with_len a n k d (omega (arith, long)) in
    omega (arith, at, long)

-- ---- points without them
without_outside : (i : ℕ) (cols : List ℕ) (xs : List ℤ) → ((j : ℕ) → i ≤ j → j < i + length xs → among j cols ≡ false)
    → without_from i cols xs ≡ xs
without_outside i cols [] h = refl
without_outside i cols (x ∷ xs) h =
    rw (h i (omega arith) (omega arith)) (ap (λ ys. x ∷ ys) (without_outside (suc i) cols xs (λ j l m. h j (omega arith) (omega arith))))

without_inside : (i : ℕ) (cols : List ℕ) (xs : List ℤ) → ((j : ℕ) → i ≤ j → j < i + length xs → among j cols ≡ true)
    → without_from i cols xs ≡ []
without_inside i cols [] h = refl
without_inside i cols (x ∷ xs) h =
    rw (h i (omega arith) (omega arith)) (without_inside (suc i) cols xs (λ j l m. h j (omega arith) (omega arith)))

-- numbers between others
pub without_range : (a m b : List ℤ) → without (range_with_len (length a) (length m)) (a ++ (m ++ b)) ≡ a ++ b
without_range a m b =
    let cols = range_with_len (length a) (length m) in
    let front = without_outside 0 cols a (λ j l h. among_outside j (length a) (length m) (inl (omega arith))) in
    let middle = without_inside (length a) cols m (λ j l h. among_inside j (length a) (length m) l h) in
    let behind = without_outside (length a + length m) cols b (λ j l h. among_outside j (length a) (length m) (inr l)) in
    without-parts cols a (m ++ b) ∙ ap₂ (λ x y. x ++ y) front (without-append (length a) cols m b ∙ ap₂ (λ x y. x ++ y) middle behind)

-- numbers behind others
pub without_behind : (a m : List ℤ) → without (range_with_len (length a) (length m)) (a ++ m) ≡ a
without_behind a m = ap (λ xs. without (range_with_len (length a) (length m)) (a ++ xs)) (sym (append-nil m)) ∙ without_range a m []
    ∙ append-nil a
