-- Elements of a list that pass a test.
use Rattle.std.proofs.Common.{◌≡◌, inl, inr, refl, Bool, true, false, cond, filter, List, [], ◌∷◌, Any}
use Rattle.std.proofs.lemmas.Bool.{false≢true}
use Rattle.isl_math.proofs.ListLaws.{Any-cases, Any-first, Any-later, Any-none}

-- nothing passes a test that nothing passes
pub none_pass : {X : Type 0} (xs : List X) → [] ≡ filter (λ (x : X). false) xs
none_pass [] = refl
none_pass (x ∷ xs) = none_pass xs

-- some element that has P passes, where each that has it does
pub Any-pass : {X : Type 0} (test : X → Bool) (P : X → Type 0) → ((x : X) → P x → test x ≡ true) → (xs : List X) → Any P xs
    → Any P (filter test xs)
Any-pass test P passes [] a = absurd (Any-none P a)
Any-pass {X = X} test P passes (x ∷ xs) a = elim (Any-cases P x xs a) [
  | inl h ↦ here (test x) (passes x h) h
  | inr m ↦ later (test x) (Any-pass test P passes xs m)
]
  where
    here : (b : Bool) → b ≡ true → P x → Any P (cond b (x ∷ filter test xs) (filter test xs))
    here true is h = Any-first P x (filter test xs) h
    here false is h = absurd (false≢true is)

    later : (b : Bool) → Any P (filter test xs) → Any P (cond b (x ∷ filter test xs) (filter test xs))
    later true m = Any-later P x (filter test xs) m
    later false m = m

-- and what passes is there
pub Any-passed : {X : Type 0} (test : X → Bool) (P : X → Type 0) (xs : List X) → Any P (filter test xs) → Any P xs
Any-passed test P [] a = absurd (Any-none P a)
Any-passed {X = X} test P (x ∷ xs) a = by (test x) (λ m. Any-passed test P xs m) a
  where
    by : (b : Bool) → (Any P (filter test xs) → Any P xs) → Any P (cond b (x ∷ filter test xs) (filter test xs)) → Any P (x ∷ xs)
    by true rest m = elim (Any-cases P x (filter test xs) m) [
      | inl h ↦ Any-first P x xs h
      | inr n ↦ Any-later P x xs (rest n)
    ]
    by false rest m = Any-later P x xs (rest m)
