-- What is listed is bounded.
use Rattle.std.proofs.Common.{◌+◌, ◌≤◌, arith, ℕ, ℤ, List, [], ◌∷◌, All}
use Rattle.std.specs.Prelude.{unsigned_abs}
use Rattle.std.proofs.lemmas.List.Elements.{All-nil, All-cons, All-contains}
use Rattle.isl_space.specs.Element.{Element}
use Rattle.isl_eval.specs.Listed.{AreFinite, IsListed}

-- the magnitudes of the numbers, one added to the other
abbrev sizes : List ℤ → ℕ
sizes [] = 0
sizes (z ∷ zs) = unsigned_abs z + sizes zs

abbrev sizes_of : List Element → ℕ
sizes_of [] = 0
sizes_of (x ∷ xs) = sizes x.coordinates + sizes_of xs

each_within : (zs : List ℤ) (bound : ℕ) → sizes zs ≤ bound → All (λ z. unsigned_abs z ≤ bound) zs
each_within [] bound least = All-nil (λ z. unsigned_abs z ≤ bound)
each_within (z ∷ zs) bound least =
    let sum : unsigned_abs z + sizes zs ≤ bound = least in
    All-cons (λ z. unsigned_abs z ≤ bound) z zs (omega (arith, sum)) (each_within zs bound (omega (arith, sum)))

all_within : (xs : List Element) (bound : ℕ) → sizes_of xs ≤ bound → All (λ x. sizes x.coordinates ≤ bound) xs
all_within [] bound least = All-nil (λ x. sizes x.coordinates ≤ bound)
all_within (x ∷ xs) bound least =
    let sum : sizes x.coordinates + sizes_of xs ≤ bound = least in
    All-cons (λ x. sizes x.coordinates ≤ bound) x xs (omega (arith, sum)) (all_within xs bound (omega (arith, sum)))

pub listed_finite : (P : Element → Type 0) (elements : List Element) → IsListed P elements → AreFinite P
listed_finite P elements is =
    let bound = sizes_of elements in (
      bound,
      (λ element has. each_within element.coordinates bound
          (All-contains (λ x. sizes x.coordinates ≤ bound) elements element (all_within elements bound (omega arith))
          ((is.exact element).1 has))),
    )
