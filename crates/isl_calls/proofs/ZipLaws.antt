-- Lists that are made of others in a loop.
use Rattle.std.proofs.Common.{◌≡◌, sym, ap, ◌∙◌, subst, ℕ, ◌+◌, ◌<◌, ◌≤◌, List, [], ◌∷◌, ◌++◌, length, get_or, take}
use Rattle.std.specs.List.{AllZip}
use Rattle.std.proofs.lemmas.List.{take_all, take_more}
use Rattle.isl_math.proofs.ListLaws.{AllZip-more}

module _ {A B : Type 0} (R : A → B → Type 0) (xs : List A) (i : ℕ) where
  -- one more
  pub zip_more : (x : A) (ys pushed : List B) (y : B) → i < length xs → x ≡ get_or xs i x → AllZip R (take i xs) ys → R x y
      → pushed ≡ ys ++ y ∷ [] → AllZip R (take (i + 1) xs) pushed
  zip_more x ys pushed y low at so_far is made =
      let taken : take (i + 1) xs ≡ take i xs ++ x ∷ [] = take_more xs i x low ∙ ap (λ (z : A). take i xs ++ z ∷ []) (sym at) in
      subst (AllZip R (take (i + 1) xs)) (sym made)
      (subst (λ zs. AllZip R zs (ys ++ y ∷ [])) (sym taken) (AllZip-more R (take i xs) ys x y so_far is))

  pub zip_all : (ys : List B) → length xs ≤ i → AllZip R (take i xs) ys → AllZip R xs ys
  zip_all ys past so_far = subst (λ zs. AllZip R zs ys) (take_all i xs past) so_far

-- one relation behind another
pub zip_through : {A B C : Type 0} (R : A → B → Type 0) (S : B → C → Type 0) (T : A → C → Type 0)
    → ((a : A) (b : B) (c : C) → R a b → S b c → T a c) → (xs : List A) (ys : List B) (zs : List C) → AllZip R xs ys → AllZip S ys zs
    → AllZip T xs zs
zip_through R S T f [] [] [] r s = r
zip_through R S T f [] [] (z ∷ zs) r s = absurd s
zip_through R S T f [] (y ∷ ys) zs r s = absurd r
zip_through R S T f (x ∷ xs) [] zs r s = absurd r
zip_through R S T f (x ∷ xs) (y ∷ ys) [] r s = absurd s
zip_through R S T f (x ∷ xs) (y ∷ ys) (z ∷ zs) r s = (f x y z r.0 s.0, zip_through R S T f xs ys zs r.1 s.1)
