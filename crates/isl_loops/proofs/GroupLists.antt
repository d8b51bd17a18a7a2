-- Lists of elements in groups: what holds of each element and of each two, where groups are joined, and of the same in another order.
use Rattle.std.proofs.Common.{◌≡◌, ◌≢◌, ◌⊎◌, inl, inr, refl, sym, ap, ◌∙◌, subst, arith, ℕ, suc, ◌-◌, ◌<◌, ◌≤◌, List, [], ◌∷◌, ◌++◌}
use Rattle.std.proofs.Common.{append_assoc, drop, drop-cons, get_or, length}
use Rattle.std.specs.Prelude.{map}
use Rattle.std.specs.List.{All, AllPairs, flat_map, swap}
use Rattle.std.specs.List.Sorted.{IsPermutation}
use Rattle.std.proofs.lemmas.Bool.{cases_eq, cases_lt}
use Rattle.std.proofs.lemmas.List.Concat.{flat_map-append}
use Rattle.std.proofs.lemmas.List.Edits.{length-swap, Swapped, swapped_from_swap}
use Rattle.std.proofs.lemmas.List.Elements.{All-append, All-cons, All-head, All-map, All-nil, All-same, All-tail}
use Rattle.std.proofs.lemmas.List.Kept.{AllPairs-cons}
use Rattle.std.proofs.lemmas.List.Sorted.{IsPermutation-append_right, IsPermutation-keeps, IsPermutation-to_front}
use Rattle.isl_math.proofs.ListLaws.{All-parts, All-unmapped}

-- ---- one more at the front
pub all_back : {X : Type 0} (P : X → Type 0) (xs : List X) (i : ℕ) (x : X) → 0 < i → i ≤ length xs → x ≡ get_or xs (i - 1) x → P x
    → All P (drop i xs) → All P (drop (i - 1) xs)
all_back P xs i x some low is p all =
    let inside : i - 1 < length xs = omega arith in
    let next : suc (i - 1) ≡ i = omega arith in
    All-same P (drop (i - 1) xs) (x ∷ drop i xs)
    (drop-cons xs (i - 1) x inside ∙ ap (λ y. y ∷ drop (suc (i - 1)) xs) (sym is) ∙ ap (λ n. x ∷ drop n xs) next)
    (All-cons P x (drop i xs) p all)

-- ---- pairs
module _ {X : Type 0} (R : X → X → Type 0) where
  pub pairs_none : AllPairs R []
  pairs_none i j d less low = absurd (omega (arith, low))

  pub pairs_head : (x : X) (xs : List X) → AllPairs R (x ∷ xs) → All (R x) xs
  pairs_head x xs h k d low = h 0 (suc k) d (omega arith) (omega (arith, low))

  pub pairs_tail : (x : X) (xs : List X) → AllPairs R (x ∷ xs) → AllPairs R xs
  pairs_tail x xs h i j d less low = h (suc i) (suc j) d (omega (arith, less)) (omega (arith, low))

  pub pairs_joined : (xs ys : List X) → AllPairs R xs → AllPairs R ys → All (λ x. All (R x) ys) xs → AllPairs R (xs ++ ys)
  pairs_joined [] ys a b cross = b
  pairs_joined (x ∷ xs) ys a b cross =
      AllPairs-cons R x (xs ++ ys) (All-append (R x) xs ys (pairs_head x xs a) (All-head (λ z. All (R z) ys) x xs cross))
      (pairs_joined xs ys (pairs_tail x xs a) b (All-tail (λ z. All (R z) ys) x xs cross))

  pub pairs_parts : (xs ys : List X) → AllPairs R (xs ++ ys) → AllPairs R xs × AllPairs R ys × All (λ x. All (R x) ys) xs
  pairs_parts [] ys h = (pairs_none, h, All-nil (λ z. All (R z) ys))
  pairs_parts (x ∷ xs) ys h =
      let rest = pairs_parts xs ys (pairs_tail x (xs ++ ys) h) in
      let head = All-parts (R x) xs ys (pairs_head x (xs ++ ys) h) in
      (AllPairs-cons R x xs head.0 rest.0, rest.1, All-cons (λ z. All (R z) ys) x xs head.1 rest.2)

module _ {G Y : Type 0} (R : Y → Y → Type 0) (f : G → Y) where
  abbrev Both : G → G → Type 0
  Both p q = R (f p) (f q)

  pub pairs_mapped : (gs : List G) → AllPairs (λ p q. R (f p) (f q)) gs → AllPairs R (map f gs)
  pairs_mapped [] h = pairs_none R
  pairs_mapped (g ∷ gs) h =
      AllPairs-cons R (f g) (map f gs) (All-map (R (f g)) f gs (pairs_head Both g gs h)) (pairs_mapped gs (pairs_tail Both g gs h))

  pub pairs_unmapped : (gs : List G) → AllPairs R (map f gs) → AllPairs (λ p q. R (f p) (f q)) gs
  pairs_unmapped [] h = pairs_none Both
  pairs_unmapped (g ∷ gs) h =
      AllPairs-cons Both g gs (All-unmapped (R (f g)) f gs (pairs_head R (f g) (map f gs) h))
      (pairs_unmapped gs (pairs_tail R (f g) (map f gs) h))

-- of the same elements in another order
abbrev Moved : ℕ → ℕ → ℕ → ℕ → Type 0
Moved a b i k = ((i ≡ a) × (k ≡ b)) ⊎ (((i ≡ b) × (k ≡ a)) ⊎ ((i ≢ a) × (i ≢ b) × (k ≡ i)))

moved_apart : (a b i j k l : ℕ) → Moved a b i k → Moved a b j l → i ≢ j → k ≢ l
moved_apart a b i j k l p q other = grind arith

moved_from : {X : Type 0} (n : ℕ) (f g : ℕ → X) (a b : ℕ) → a < n → b < n → Swapped f g a b → (i : ℕ) → i < n
    → (k : ℕ) × (k < n) × (g i ≡ f k) × Moved a b i k
moved_from n f g a b p q s i low = elim (cases_eq i a) [
  | inl e ↦ (b, q, ap g e ∙ s.0, inl (e, refl))
  | inr x ↦ elim (cases_eq i b) [
    | inl e ↦ (a, p, ap g e ∙ s.1, inr (inl (e, refl)))
    | inr y ↦ (i, low, s.2 i x y, inr (inr (x, y, refl)))
  ]
]

module _ {X : Type 0} (R : X → X → Type 0) (back : (a b : X) → R a b → R b a) where
  apart : (xs : List X) → AllPairs R xs → (d : X) (i j : ℕ) → i < length xs → j < length xs → i ≢ j → R (get_or xs i d) (get_or xs j d)
  apart xs h d i j low high other = elim (cases_lt i j) [
    | inl less ↦ h i j d less high
    | inr more ↦ back (get_or xs j d) (get_or xs i d) (h j i d (omega (arith, more, other)) low)
  ]

  -- where two elements change places
  swapped : (n : ℕ) (f g : ℕ → X) (a b : ℕ) → a < n → b < n → ((i j : ℕ) → i < n → j < n → i ≢ j → R (f i) (f j)) → Swapped f g a b
      → (i j : ℕ) → i < n → j < n → i ≢ j → R (g i) (g j)
  swapped n f g a b p q h s i j low high other =
      let k = moved_from n f g a b p q s i low in
      let l = moved_from n f g a b p q s j high in
      rw (k.2, l.2) (h k.0 l.0 k.1 l.1 (moved_apart a b i j k.0 l.0 k.3 l.3 other))

  pub pairs_permuted : (xs ys : List X) → IsPermutation xs ys → AllPairs R xs → AllPairs R ys
  pairs_permuted xs ys same h =
      IsPermutation-keeps xs (AllPairs R) h (λ l a b p q pairs i j d less low.
      let high : j < length l = omega (arith, low, length-swap l a b) in
      swapped (length l) (λ k. get_or l k d) (λ k. get_or (swap l a b) k d) a b p q
      (λ k m low high other. apart l pairs d k m low high other)
      (swapped_from_swap l (swap l a b) a b d p q refl) i j (omega (arith, less, high)) high (omega (arith, less))) ys same

-- ---- groups of elements
module _ {G X : Type 0} (f : G → List X) where
  pub all_members : (P : X → Type 0) (gs : List G) → All (λ g. All P (f g)) gs → All P (flat_map f gs)
  all_members P [] h = All-nil P
  all_members P (g ∷ gs) h =
      All-append P (f g) (flat_map f gs) (All-head (λ z. All P (f z)) g gs h) (all_members P gs (All-tail (λ z. All P (f z)) g gs h))

  pub all_grouped : (P : X → Type 0) (gs : List G) → All P (flat_map f gs) → All (λ g. All P (f g)) gs
  all_grouped P [] h = All-nil (λ g. All P (f g))
  all_grouped P (g ∷ gs) h =
      let parts = All-parts P (f g) (flat_map f gs) h in All-cons (λ z. All P (f z)) g gs parts.0 (all_grouped P gs parts.1)

  pub pairs_grouped : (R : X → X → Type 0) (gs : List G) → AllPairs R (flat_map f gs) → All (λ g. AllPairs R (f g)) gs
  pairs_grouped R [] h = All-nil (λ g. AllPairs R (f g))
  pairs_grouped R (g ∷ gs) h =
      let parts = pairs_parts R (f g) (flat_map f gs) h in
      All-cons (λ z. AllPairs R (f z)) g gs parts.0 (pairs_grouped R gs parts.1)

-- an element more, in one group with all of those between
module _ {G X : Type 0} (f : G → List X) (before between after : List G) (group : G) (x : X)
    (made : f group ≡ flat_map f between ++ x ∷ []) where
  pub joined_same : IsPermutation (flat_map f (before ++ (between ++ after)) ++ x ∷ []) (flat_map f ((before ++ group ∷ []) ++ after))
  joined_same =
      let a = flat_map f before in
      let b = flat_map f between in
      let c = flat_map f after in
      let old : flat_map f (before ++ (between ++ after)) ++ x ∷ [] ≡ a ++ (b ++ (c ++ x ∷ [])) =
      simp (flat_map-append, append_assoc) in
      let new : flat_map f ((before ++ group ∷ []) ++ after) ≡ a ++ (b ++ (x ∷ c)) = simp (flat_map-append, append_assoc, made) in
      rw (old, new) (IsPermutation-append_right a (b ++ (c ++ x ∷ [])) (b ++ x ∷ c)
      (IsPermutation-append_right b (c ++ x ∷ []) (x ∷ c) (IsPermutation-to_front c x)))

  module _ (C : X → X → Type 0) where
    abbrev Each : G → G → Type 0
    Each p q = All (λ y. All (C y) (f q)) (f p)

    -- it comes behind all before it
    joined_behind : (p : G) → All (λ y. All (C y) (x ∷ [])) (f p) → All (Each p) between → Each p group
    joined_behind p last each k d low =
        let y = get_or (f p) k d in
        subst (All (C y)) (sym made) (All-append (C y) (flat_map f between) (x ∷ [])
        (all_members f (C y) between (λ j e high. each j e high k d low)) (last k d low))

    -- and in front of all after it
    joined_front : (q : G) → All (C x) (f q) → All (λ p. Each p q) between → Each group q
    joined_front q last each =
        let P : X → Type 0 = λ y. All (C y) (f q) in
        subst (All P) (sym made)
        (All-append P (flat_map f between) (x ∷ []) (all_members f P between each) (All-cons P x [] last (All-nil P)))

    pub joined_ordered : All (λ p. All (λ y. All (C y) (x ∷ [])) (f p)) before → All (λ q. All (C x) (f q)) after
        → AllPairs (λ p q. All (λ y. All (C y) (f q)) (f p)) (before ++ (between ++ after))
        → AllPairs (λ p q. All (λ y. All (C y) (f q)) (f p)) ((before ++ group ∷ []) ++ after)
    joined_ordered front end h =
        let whole = pairs_parts Each before (between ++ after) h in
        let behind = pairs_parts Each between after whole.1 in
        let both : (k : ℕ) (d : G) → k < length before → All (Each (get_or before k d)) between × All (Each (get_or before k d)) after =
        λ k d low. All-parts (Each (get_or before k d)) between after (whole.2 k d low) in
        let outer : All (λ p. All (Each p) after) before = λ k d low. (both k d low).1 in
        let A : G → Type 0 = λ p. All (Each p) after in
        let B : G → Type 0 = λ p. All (Each p) (group ∷ []) in
        let alone : (p : G) → Each p group → B p = λ p e. All-cons (Each p) group [] e (All-nil (Each p)) in
        pairs_joined Each (before ++ group ∷ []) after
        (pairs_joined Each before (group ∷ []) whole.0 (AllPairs-cons Each group [] (All-nil (Each group)) (pairs_none Each))
        (λ k d low. alone (get_or before k d) (joined_behind (get_or before k d) (front k d low) (both k d low).0)))
        behind.1
        (All-append A before (group ∷ []) outer
        (All-cons A group []
        (λ k d low. joined_front (get_or after k d) (end k d low) (λ j e high. behind.2 j e high k d low)) (All-nil A)))
