-- Lists in which each element stands in a relation to all later ones.
use Rattle.std.proofs.Common.{◌≡◌, ◌⊎◌, inl, inr, ◌<◌, ℕ, zero, suc, List, [], ◌∷◌, ◌++◌, length, get_or, refl, arith, All}
use Rattle.std.specs.List.{AllPairs, Contains}
use Rattle.std.proofs.lemmas.List.Elements.{All-append, All-cons, All-head, All-nil, All-tail}
use Rattle.std.proofs.lemmas.List.Kept.{AllPairs-cons}
use Rattle.isl_math.proofs.ListLaws.{All-parts}

module _ {X : Type 0} where
  pub Contains-first : (x : X) (xs : List X) → Contains (x ∷ xs) x
  Contains-first x xs = (0, omega arith, refl)

  pub Contains-cases : (x : X) (xs : List X) (y : X) → Contains (x ∷ xs) y → (x ≡ y) ⊎ Contains xs y
  Contains-cases x xs y c = by c.0 c.1 c.2
    where
      by : (k : ℕ) → k < length (x ∷ xs) → get_or (x ∷ xs) k y ≡ y → (x ≡ y) ⊎ Contains xs y
      by zero low at = inl at
      by (suc k) low at = inr (k, omega arith, at)

module _ {X : Type 0} (R : X → X → Type 0) where
  pub AllPairs-nil : AllPairs R []
  AllPairs-nil = λ i j d l low. absurd (omega arith)

  pub AllPairs-head : (x : X) (xs : List X) → AllPairs R (x ∷ xs) → All (R x) xs
  AllPairs-head x xs h = λ k d low. h 0 (suc k) d (omega arith) (omega arith)

  pub AllPairs-tail : (x : X) (xs : List X) → AllPairs R (x ∷ xs) → AllPairs R xs
  AllPairs-tail x xs h = λ i j d l low. h (suc i) (suc j) d (omega arith) (omega arith)

  -- two such lists, where each element of the first stands so to each of the second
  pub AllPairs-append : (xs ys : List X) → AllPairs R xs → AllPairs R ys → All (λ x. All (R x) ys) xs → AllPairs R (xs ++ ys)
  AllPairs-append [] ys a b c = b
  AllPairs-append (x ∷ xs) ys a b c =
      AllPairs-cons R x (xs ++ ys) (All-append (R x) xs ys (AllPairs-head x xs a) (All-head (λ z. All (R z) ys) x xs c))
      (AllPairs-append xs ys (AllPairs-tail x xs a) b (All-tail (λ z. All (R z) ys) x xs c))

  -- and back
  pub AllPairs-parts : (xs ys : List X) → AllPairs R (xs ++ ys) → AllPairs R xs × AllPairs R ys × All (λ x. All (R x) ys) xs
  AllPairs-parts [] ys h = (AllPairs-nil, h, All-nil (λ x. All (R x) ys))
  AllPairs-parts (x ∷ xs) ys h =
      let rest = AllPairs-parts xs ys (AllPairs-tail x (xs ++ ys) h) in
      let firsts = All-parts (R x) xs ys (AllPairs-head x (xs ++ ys) h) in
      (AllPairs-cons R x xs firsts.0 rest.0, rest.1, All-cons (λ z. All (R z) ys) x xs firsts.1 rest.2)
