-- Lists that are joined of several.
use Rattle.std.proofs.Common.{◌↔◌, inl, inr, refl, subst, arith, List, [], ◌∷◌, ◌++◌, length, get_or}
use Rattle.std.specs.Prelude.{flat_map}
use Rattle.std.specs.List.{All, AllPairs, Any, Contains}
use Rattle.std.proofs.lemmas.List.{get_or_append_left, get_or_at, length-append}
use Rattle.std.proofs.lemmas.List.Elements.{All-append, All-head, All-nil, All-tail, Contains-get_or}
use Rattle.isl_math.proofs.ListLaws.{Any-cases, Any-contains, Any-element, Any-left, Any-none, Any-right}

-- what all have in each of the lists
pub all_flat : {X Y : Type 0} (f : X → List Y) (P : Y → Type 0) (xs : List X) → All (λ x. All P (f x)) xs → All P (flat_map f xs)
all_flat f P [] all = All-nil P
all_flat f P (x ∷ xs) all =
    All-append P (f x) (flat_map f xs) (All-head (λ y. All P (f y)) x xs all) (all_flat f P xs (All-tail (λ y. All P (f y)) x xs all))

-- what some has in one of the lists
pub any_flat : {X Y : Type 0} (f : X → List Y) (P : Y → Type 0) (xs : List X) → Any (λ x. Any P (f x)) xs → Any P (flat_map f xs)
any_flat f P [] any = absurd (Any-none (λ y. Any P (f y)) any)
any_flat f P (x ∷ xs) any = elim (Any-cases (λ y. Any P (f y)) x xs any) [
  | inl now ↦ Any-left P (f x) (flat_map f xs) now
  | inr later ↦ Any-right P (f x) (flat_map f xs) (any_flat f P xs later)
]

-- what each that is contained has
pub all_contained : {X : Type 0} (P : X → Type 0) (xs : List X) → ((x : X) → Contains xs x → P x) → All P xs
all_contained P xs each = λ k d low. each (get_or xs k d) (Contains-get_or xs k d low)

-- lists with the same elements
pub any_same : {X : Type 0} (xs ys : List X) → ((x : X) → Contains xs x ↔ Contains ys x) → (P : X → Type 0) → Any P xs ↔ Any P ys
any_same xs ys same P = (
  (λ a. let e = Any-element P xs a in Any-contains P ys e.0 ((same e.0).0 e.1) e.2),
  (λ a. let e = Any-element P ys a in Any-contains P xs e.0 ((same e.0).1 e.1) e.2),
)

-- each that stands before
pub pairs_before : {X : Type 0} (R : X → X → Type 0) (xs : List X) (y : X) (ys : List X) → AllPairs R (xs ++ y ∷ ys) → All (λ x. R x y) xs
pairs_before R xs y ys pairs = λ k d low.
    let long = length-append xs (y ∷ ys) in
    subst (λ x. R x y) (get_or_append_left xs (y ∷ ys) d k low)
    (subst (R (get_or (xs ++ y ∷ ys) k d)) (get_or_at xs y ys d (length xs) refl) (pairs k (length xs) d low (omega (arith, long))))
