-- Some element of a list, all of them, or two lists at once.
use Rattle.std.proofs.Common.{◌≡◌, ◌⊎◌, inl, inr, subst, ◌∙◌, Bool, true, false, cond, map, ℕ, zero, suc, ◌<◌, ◌≤◌, refl, arith, List, []}
use Rattle.std.proofs.Common.{◌∷◌, ◌++◌, length, get_or}
use Rattle.std.specs.List.{All, AllZip, Any, Contains, filter, list_all}
use Rattle.std.proofs.lemmas.Bool.{and_parts}
use Rattle.std.proofs.lemmas.List.{get_or-map, length-map, length-append, get_or_append_left}
use Rattle.std.proofs.lemmas.List.Elements.{All-nil, All-cons, All-head, All-tail, All-map}

-- ---- one element
pub Contains-later : {X : Type 0} (y : X) (xs : List X) (x : X) → Contains xs x → Contains (y ∷ xs) x
Contains-later y xs x c = (suc c.0, (let h = c.1 in omega arith), c.2)

pub Any-none : {X : Type 0} (P : X → Type 0) → Any P [] → ⊥
Any-none P a = let h = a.2 in omega arith

pub Any-first : {X : Type 0} (P : X → Type 0) (x : X) (xs : List X) → P x → Any P (x ∷ xs)
Any-first P x xs p = (0, x, omega arith, refl, p)

pub Any-later : {X : Type 0} (P : X → Type 0) (y : X) (xs : List X) → Any P xs → Any P (y ∷ xs)
Any-later P y xs a = (suc a.0, a.1, (let h = a.2 in omega arith), a.3, a.4)

pub Any-cases : {X : Type 0} (P : X → Type 0) (y : X) (xs : List X) → Any P (y ∷ xs) → P y ⊎ Any P xs
Any-cases {X = X} P y xs a = by a.0 a.1 a.2 a.3 a.4
  where
    by : (k : ℕ) (x : X) → k < length (y ∷ xs) → get_or (y ∷ xs) k x ≡ x → P x → P y ⊎ Any P xs
    by zero x i e p = inl (rw e p)
    by (suc k) x i e p = inr (k, x, omega arith, e, p)

pub Any-contains : {X : Type 0} (P : X → Type 0) (xs : List X) (x : X) → Contains xs x → P x → Any P xs
Any-contains P xs x c p = (c.0, x, c.1, c.2, p)

-- the element that has P
pub Any-element : {X : Type 0} (P : X → Type 0) (xs : List X) → Any P xs → (x : X) × Contains xs x × P x
Any-element P xs a = (a.1, (a.0, a.2, a.3), a.4)

pub Any-weaker : {X : Type 0} (P Q : X → Type 0) → ((x : X) → P x → Q x) → (xs : List X) → Any P xs → Any Q xs
Any-weaker P Q f xs a = (a.0, a.1, a.2, a.3, f a.1 a.4)

-- where each element has P or Q, all have P or some has Q
pub all_or_any : {X : Type 0} (P Q : X → Type 0) (xs : List X) → All (λ x. P x ⊎ Q x) xs → All P xs ⊎ Any Q xs
all_or_any P Q [] h = inl (All-nil P)
all_or_any P Q (x ∷ xs) h = elim (h 0 x (omega arith)) [
  | inr q ↦ inr (Any-first Q x xs q)
  | inl p ↦ elim (all_or_any P Q xs (λ k d i. h (suc k) d (omega arith))) [
    | inl ps ↦ inl (All-cons P x xs p ps)
    | inr q ↦ inr (Any-later Q x xs q)
  ]
]

-- each element passes the test
pub All-pass : {X : Type 0} (test : X → Bool) (xs : List X) → list_all test xs ≡ true → All (λ x. test x ≡ true) xs
All-pass test [] e = All-nil (λ x. test x ≡ true)
All-pass test (x ∷ xs) e = let parts = and_parts (test x) (list_all test xs) e in
    All-cons (λ y. test y ≡ true) x xs parts.0 (All-pass test xs parts.1)

-- ---- joined lists
pub All-parts : {X : Type 0} (P : X → Type 0) (xs ys : List X) → All P (xs ++ ys) → All P xs × All P ys
All-parts P [] ys h = (All-nil P, h)
All-parts P (x ∷ xs) ys h = let rest = All-parts P xs ys (All-tail P x (xs ++ ys) h) in
    (All-cons P x xs (All-head P x (xs ++ ys) h) rest.0, rest.1)

pub All-last : {X : Type 0} (P : X → Type 0) (xs : List X) (y : X) → All P (xs ++ y ∷ []) → All P xs × P y
All-last P xs y h = let rest = All-parts P xs (y ∷ []) h in (rest.0, All-head P y [] rest.1)

-- ---- two lists at once
pub All-zipped : {A B : Type 0} (R : A → B → Type 0) (P : A → Type 0) (Q : B → Type 0) → ((a : A) (b : B) → R a b → P a → Q b)
    → (xs : List A) (ys : List B) → AllZip R xs ys → All P xs → All Q ys
All-zipped R P Q f [] [] z h = All-nil Q
All-zipped R P Q f [] (y ∷ ys) z h = absurd z
All-zipped R P Q f (x ∷ xs) [] z h = absurd z
All-zipped R P Q f (x ∷ xs) (y ∷ ys) z h = All-cons Q y ys (f x y z.0 (All-head P x xs h))
    (All-zipped R P Q f xs ys z.1 (All-tail P x xs h))

pub All-zipped_back : {A B : Type 0} (R : A → B → Type 0) (P : A → Type 0) (Q : B → Type 0) → ((a : A) (b : B) → R a b → Q b → P a)
    → (xs : List A) (ys : List B) → AllZip R xs ys → All Q ys → All P xs
All-zipped_back R P Q f [] [] z h = All-nil P
All-zipped_back R P Q f [] (y ∷ ys) z h = absurd z
All-zipped_back R P Q f (x ∷ xs) [] z h = absurd z
All-zipped_back R P Q f (x ∷ xs) (y ∷ ys) z h =
    All-cons P x xs (f x y z.0 (All-head Q y ys h)) (All-zipped_back R P Q f xs ys z.1 (All-tail Q y ys h))

-- the relation with a fact of the first list beside it
pub AllZip-with : {A B : Type 0} (R : A → B → Type 0) (P : A → Type 0) (xs : List A) (ys : List B) → AllZip R xs ys → All P xs
    → AllZip (λ a b. R a b × P a) xs ys
AllZip-with R P [] [] z h = z
AllZip-with R P [] (y ∷ ys) z h = absurd z
AllZip-with R P (x ∷ xs) [] z h = absurd z
AllZip-with R P (x ∷ xs) (y ∷ ys) z h = ((z.0, All-head P x xs h), AllZip-with R P xs ys z.1 (All-tail P x xs h))

-- two lists that are zipped, each with one element more
pub AllZip-more : {A B : Type 0} (R : A → B → Type 0) (xs : List A) (ys : List B) (x : A) (y : B) → AllZip R xs ys → R x y
    → AllZip R (xs ++ x ∷ []) (ys ++ y ∷ [])
AllZip-more R [] [] x y z r = (r, z)
AllZip-more R [] (b ∷ ys) x y z r = absurd z
AllZip-more R (a ∷ xs) [] x y z r = absurd z
AllZip-more R (a ∷ xs) (b ∷ ys) x y z r = (z.0, AllZip-more R xs ys x y z.1 r)

pub AllZip-weaker : {A B : Type 0} (R S : A → B → Type 0) → ((a : A) (b : B) → R a b → S a b) → (xs : List A) (ys : List B) → AllZip R xs ys
    → AllZip S xs ys
AllZip-weaker R S f [] [] z = z
AllZip-weaker R S f [] (y ∷ ys) z = absurd z
AllZip-weaker R S f (x ∷ xs) [] z = absurd z
AllZip-weaker R S f (x ∷ xs) (y ∷ ys) z = (f x y z.0, AllZip-weaker R S f xs ys z.1)

-- ---- mapped and filtered lists
pub All-unmapped : {X Y : Type 0} (P : Y → Type 0) (f : X → Y) (xs : List X) → All P (map f xs) → All (λ x. P (f x)) xs
All-unmapped P f xs h = λ k d i. subst P (get_or-map f xs k d (f d) i) (h k (f d) (let n = length-map xs f in omega arith))

pub filter_shorter : {X : Type 0} (p : X → Bool) (xs : List X) → length (filter p xs) ≤ length xs
filter_shorter p [] = omega arith
filter_shorter p (x ∷ xs) = by (p x) (filter_shorter p xs)
  where
    by : (b : Bool) → length (filter p xs) ≤ length xs → length (cond b (x ∷ filter p xs) (filter p xs)) ≤ suc (length xs)
    by true h = omega arith
    by false h = omega arith

-- ---- some element of joined lists
pub Any-left : {X : Type 0} (P : X → Type 0) (xs ys : List X) → Any P xs → Any P (xs ++ ys)
Any-left P xs ys a = (
  a.0,
  a.1,
  (let n = length-append xs ys in let h = a.2 in omega arith),
  get_or_append_left xs ys a.1 a.0 a.2 ∙ a.3,
  a.4,
)

pub Any-unmapped : {X Y : Type 0} (P : Y → Type 0) (f : X → Y) (xs : List X) → Any P (map f xs) → Any (λ x. P (f x)) xs
Any-unmapped P f [] a = absurd (let h = a.2 in omega arith)
Any-unmapped P f (x ∷ xs) a = elim (Any-cases P (f x) (map f xs) a) [
  | inl p ↦ Any-first (λ x. P (f x)) x xs p
  | inr b ↦ Any-later (λ x. P (f x)) x xs (Any-unmapped P f xs b)
]

pub Any-zipped : {A B : Type 0} (R : A → B → Type 0) (P : A → Type 0) (Q : B → Type 0) → ((a : A) (b : B) → R a b → P a → Q b)
    → (xs : List A) (ys : List B) → AllZip R xs ys → Any P xs → Any Q ys
Any-zipped R P Q f [] [] z a = absurd (let h = a.2 in omega arith)
Any-zipped R P Q f [] (y ∷ ys) z a = absurd z
Any-zipped R P Q f (x ∷ xs) [] z a = absurd z
Any-zipped R P Q f (x ∷ xs) (y ∷ ys) z a = elim (Any-cases P x xs a) [
  | inl p ↦ Any-first Q y ys (f x y z.0 p)
  | inr b ↦ Any-later Q y ys (Any-zipped R P Q f xs ys z.1 b)
]

pub All-map-with : {X Y : Type 0} (P Q : Y → Type 0) (f : X → Y) (xs : List X)
    → ((k : ℕ) (d : X) → k < length xs → P (f (get_or xs k d)) → Q (f (get_or xs k d))) → All P (map f xs) → All Q (map f xs)
All-map-with P Q f xs g h = All-map Q f xs (λ k d i. g k d i (All-unmapped P f xs h k d i))

pub Any-with : {X : Type 0} (P Q R : X → Type 0) → ((x : X) → P x → Q x → R x) → (xs : List X) → All Q xs → Any P xs → Any R xs
Any-with P Q R f xs h a = (a.0, a.1, a.2, a.3, f a.1 a.4 (rw (a.3) at (h a.0 a.1 a.2)))

pub Any-right : {X : Type 0} (P : X → Type 0) (xs ys : List X) → Any P ys → Any P (xs ++ ys)
Any-right P [] ys a = a
Any-right P (x ∷ xs) ys a = Any-later P x (xs ++ ys) (Any-right P xs ys a)

pub Any-parts : {X : Type 0} (P : X → Type 0) (xs ys : List X) → Any P (xs ++ ys) → Any P xs ⊎ Any P ys
Any-parts P [] ys a = inr a
Any-parts P (x ∷ xs) ys a = elim (Any-cases P x (xs ++ ys) a) [
  | inl p ↦ inl (Any-first P x xs p)
  | inr b ↦ elim (Any-parts P xs ys b) [ inl c ↦ inl (Any-later P x xs c) | inr c ↦ inr c ]
]

pub Any-one : {X : Type 0} (P : X → Type 0) (x : X) → Any P (x ∷ []) → P x
Any-one P x a = elim (Any-cases P x [] a) [ inl p ↦ p | inr b ↦ absurd (let h = b.2 in omega arith) ]
