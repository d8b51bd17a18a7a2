-- Loops that look for one of several with a property.
use Rattle.std.proofs.Common.{◌≡◌, ◌↔◌, inl, inr, sym, subst, ℕ, ◌+◌, ◌<◌, ◌≤◌, List, [], ◌∷◌, Any, length, get_or, take, false, IsTrue}
use Rattle.std.proofs.lemmas.Bool.{false≢true}
use Rattle.std.proofs.lemmas.List.{take_all, take_more}
use Rattle.isl_math.proofs.ListLaws.{Any-one, Any-parts}

-- one more of them
pub none_more : {X : Type 0} (P : X → Type 0) (xs : List X) (i : ℕ) (x : X) → i < length xs → x ≡ get_or xs i x → ¬ Any P (take i xs)
    → ¬ P x → ¬ Any P (take (i + 1) xs)
none_more P xs i x low at none not a = elim (Any-parts P (take i xs) (get_or xs i x ∷ []) (subst (Any P) (take_more xs i x low) a)) [
  | inl before ↦ none before
  | inr here ↦ not (subst P (sym at) (Any-one P (get_or xs i x) here))
]

-- all of them
pub none_all : {X : Type 0} (P : X → Type 0) (xs : List X) (i : ℕ) → length xs ≤ i → ¬ Any P (take i xs) → IsTrue false ↔ Any P xs
none_all P xs i end none = ((λ t. absurd (false≢true t)), (λ a. absurd (none (subst (Any P) (sym (take_all i xs end)) a))))
