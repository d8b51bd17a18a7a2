-- The numbers of parameters, one by one.
use Rattle.std.proofs.Common.{◌≡◌, ◌∙◌, sym, ap, ap₂, take, ◌+◌, ℕ, ℤ, List, [], ◌∷◌, ◌++◌, Some}
use Rattle.std.specs.List.{slice_get}
use Rattle.std.proofs.lemmas.List.{map-append, take_more}
use Rattle.std.proofs.lemmas.Option.{get_or_from_slice_get, slice_get_within}
use Rattle.isl_space.specs.Name.{Name}
use Rattle.isl_space.specs.Valuation.{Valuation, value_at, values_of}

pub numbers_next : (params : List Name) (at : Valuation) (place : ℕ) (name : Name) (items new : List ℤ) (number : ℤ)
    → slice_get params place ≡ Some name
    → items ≡ values_of (take place params) at → number ≡ value_at at name → new ≡ items ++ number ∷ []
    → new ≡ values_of (take (place + 1) params) at
numbers_next params at place name items new number there are is grown =
    let low = slice_get_within params place name there in
    let taken : take (place + 1) params ≡ take place params ++ name ∷ [] =
    take_more params place name low ∙ ap (λ (n : Name). take place params ++ n ∷ []) (get_or_from_slice_get params place name name there) in
    grown ∙ ap₂ (λ (xs : List ℤ) (z : ℤ). xs ++ z ∷ []) are is
    ∙ sym (ap (λ (ps : List Name). values_of ps at) taken ∙ map-append (λ (n : Name). value_at at n) (take place params) (name ∷ []))
