-- Lists of distinct names from the front: each name differs from those behind it.
use Rattle.std.proofs.Common.{◌≡◌, ◌≢◌, ◌<◌, ◌∙◌, ℕ, zero, suc, Bool, true, false, ◌||◌, List, [], ◌∷◌, ◌++◌, All, length, get_or, arith}
use Rattle.std.proofs.Common.{ap, sym}
use Rattle.std.specs.Str.{bytes_eq}
use Rattle.std.proofs.lemmas.Bool.{false≢true}
use Rattle.std.proofs.lemmas.List.Elements.{All-head, All-tail}
use Rattle.std.proofs.lemmas.Slice.Eq.{bytes_eq-Decides}
use Rattle.isl_space.specs.Name.{Name}
use Rattle.isl_space.specs.Names.{AreDistinct, is_among}

-- a name differs from each of a list
abbrev pub Differs : Name → List Name → Type 0
Differs name [] = Unit {0}
Differs name (other ∷ others) = (name ≢ other) × Differs name others

-- no two of a list are equal
abbrev pub Distinct : List Name → Type 0
Distinct [] = Unit {0}
Distinct (name ∷ names) = Differs name names × Distinct names

-- each of a list differs from each of another one
abbrev pub Apart : List Name → List Name → Type 0
Apart [] others = Unit {0}
Apart (name ∷ names) others = Differs name others × Apart names others

differs-append : (name : Name) (xs ys : List Name) → Differs name xs → Differs name ys → Differs name (xs ++ ys)
differs-append name [] ys a b = b
differs-append name (x ∷ xs) ys a b = (a.0, differs-append name xs ys a.1 b)

pub apart-append : (xs ys zs : List Name) → Apart xs ys → Apart xs zs → Apart xs (ys ++ zs)
apart-append [] ys zs a b = tt
apart-append (x ∷ xs) ys zs a b = (differs-append x ys zs a.0 b.0, apart-append xs ys zs a.1 b.1)

pub distinct-append : (xs ys : List Name) → Distinct xs → Distinct ys → Apart xs ys → Distinct (xs ++ ys)
distinct-append [] ys a b apart = b
distinct-append (x ∷ xs) ys a b apart = (differs-append x xs ys a.0 apart.0, distinct-append xs ys a.1 b apart.1)

-- ---- a name that is not among some

among_itself : (others : List Name) (name other : Name) → is_among (other ∷ others) name ≡ false → other ≢ name
among_itself others name other is same =
    false≢true (sym is ∙ ap (λ (b : Bool). b || is_among others name) ((bytes_eq-Decides name other).1 (sym same)))

among_others : (others : List Name) (name other : Name) → is_among (other ∷ others) name ≡ false → is_among others name ≡ false
among_others others name other is = by (bytes_eq name other) is
  where
    by : (b : Bool) → (b || is_among others name) ≡ false → is_among others name ≡ false
    by true h = absurd (false≢true (sym h))
    by false h = h

pub apart-nil : (names : List Name) → Apart names []
apart-nil [] = tt
apart-nil (name ∷ names) = (tt, apart-nil names)

pub apart_from : (others : List Name) (name : Name) → is_among others name ≡ false → Apart others (name ∷ [])
apart_from [] name is = tt
apart_from (other ∷ others) name is = ((among_itself others name other is, tt), apart_from others name (among_others others name other is))

pub apart_from_all : (others names : List Name) → All (λ n. is_among others n ≡ false) names → Apart others names
apart_from_all others [] fresh = apart-nil others
apart_from_all others (name ∷ names) fresh =
    apart-append others (name ∷ []) names (apart_from others name (All-head (λ n. is_among others n ≡ false) name names fresh))
    (apart_from_all others names (All-tail (λ n. is_among others n ≡ false) name names fresh))

-- ---- the same by places

differs_from : (name : Name) (names : List Name) → ((j : ℕ) (d : Name) → j < length names → name ≢ get_or names j d) → Differs name names
differs_from name [] h = tt
differs_from name (other ∷ others) h = (h 0 name (omega arith), differs_from name others (λ j d low. h (suc j) d (omega arith)))

pub distinct_from : (names : List Name) → AreDistinct names → Distinct names
distinct_from [] h = tt
distinct_from (name ∷ names) h = (
  differs_from name names (λ j d low. h 0 (suc j) d (omega arith) (omega arith)),
  distinct_from names (λ i j d before low. h (suc i) (suc j) d (omega arith) (omega arith)),
)

differs_at : (name : Name) (names : List Name) → Differs name names → (j : ℕ) (d : Name) → j < length names → name ≢ get_or names j d
differs_at name [] h j d low = absurd (omega (arith, low))
differs_at name (other ∷ others) h zero d low = h.0
differs_at name (other ∷ others) h (suc j) d low = differs_at name others h.1 j d (omega arith)

pub distinct_at : (names : List Name) → Distinct names → AreDistinct names
distinct_at [] h i j d before low = absurd (omega (arith, low))
distinct_at (name ∷ names) h zero zero d before low = absurd (omega (arith, before))
distinct_at (name ∷ names) h zero (suc j) d before low = differs_at name names h.0 j d (omega arith)
distinct_at (name ∷ names) h (suc i) zero d before low = absurd (omega (arith, before))
distinct_at (name ∷ names) h (suc i) (suc j) d before low = distinct_at names h.1 i j d (omega arith) (omega arith)
