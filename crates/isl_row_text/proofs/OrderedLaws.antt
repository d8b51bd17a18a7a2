-- A list that is sorted, and in which elements that tie stand as before, is the list in order.
use Rattle.std.proofs.Common.{◌≡◌, ◌<◌, ◌≤◌, ℕ, suc, Bool, true, false, cond, List, [], ◌∷◌, length, map, get_or, refl, sym, ap, ◌∙◌, arith}
use Rattle.std.specs.Prelude.{if◌then◌else◌, not}
use denote.Param.Members.{Mut, Called}
use denote.Ref.{Bor}
use Rattle.std.specs.declared.cmp.Ordering.{Ordering}
use Rattle.std.specs.Ordering.{is_lt}
use Rattle.std.specs.Cmp.{IsStrictWeakOrder, IsTotalOrder}
use Rattle.std.specs.Fn.{ComparesAs}
use Rattle.std.specs.List.{filter}
use Rattle.std.specs.List.Sorted.{IsSortedBy, IsStableBy, IsSortedByClosure, IsStableByClosure, ties}
use Rattle.std.proofs.lemmas.Bool.{false≢true, and_parts, not-true}
use Rattle.std.proofs.lemmas.List.Sorted.{sorted_far, ranks_by, answers_always}
use Rattle.isl_row_text.specs.Ordered.{placed, in_order}

module _ {X : Type 0} (before : X → X → Bool) where
  -- none of these stands before x
  abbrev pub Least : X → List X → Type 0
  Least x [] = Unit {0}
  Least x (y ∷ ys) = (before y x ≡ false) × Least x ys

  -- no element stands before an earlier one
  abbrev pub Rises : List X → Type 0
  Rises [] = Unit {0}
  Rises (x ∷ xs) = Least x xs × Rises xs

  tie_parts : (x y : X) → ties before x y ≡ true → (before x y ≡ false) × (before y x ≡ false)
  tie_parts x y h = let p = and_parts (not (before x y)) (not (before y x)) h in (not-true _ p.0, not-true _ p.1)

  tie_from : (x y : X) → before x y ≡ false → before y x ≡ false → ties before x y ≡ true
  tie_from x y a b = rw (a, b) refl

  least_from : (x : X) (ys : List X) → ((k : ℕ) (d : X) → k < length ys → before (get_or ys k d) x ≡ false) → Least x ys
  least_from x [] h = tt
  least_from x (y ∷ ys) h = (h 0 x (omega arith), least_from x ys (λ k d low. h (suc k) d (omega arith)))

  rises_from : (ys : List X) → ((i j : ℕ) (d : X) → i ≤ j → j < length ys → before (get_or ys j d) (get_or ys i d) ≡ false) → Rises ys
  rises_from [] h = tt
  rises_from (y ∷ ys) h = (least_from y ys (λ k d low. h 0 (suc k) d (omega arith) (omega arith)), rises_from ys (λ i j d le low. h (suc i) (suc j) d (omega arith) (omega arith)))

  filtered : (p : X → Bool) (x : X) (xs : List X) → p x ≡ true → filter p (x ∷ xs) ≡ x ∷ filter p xs
  filtered p x xs is = ap (λ b. cond b (x ∷ filter p xs) (filter p xs)) is

  left_out : (p : X → Bool) (x : X) (xs : List X) → p x ≡ false → filter p (x ∷ xs) ≡ filter p xs
  left_out p x xs is = ap (λ b. cond b (x ∷ filter p xs) (filter p xs)) is

  module _ (o : IsStrictWeakOrder before) where
    itself : (x : X) → before x x ≡ false
    itself x = by (before x x) refl
      where
        by : (b : Bool) → before x x ≡ b → before x x ≡ false
        by true is = o.one_way x x is
        by false is = is

    tie_itself : (x : X) → ties before x x ≡ true
    tie_itself x = tie_from x x (itself x) (itself x)

    -- where none of a list stands before y, and one of it ties with x, x does not stand before y
    not_before : (x y z : X) (l m : List X) → Least y l → filter (ties before x) l ≡ z ∷ m → before x y ≡ false
    not_before x y z [] m least some = absurd cc
    not_before x y z (w ∷ l) m least some =
        by (ties before x w) refl (λ is. not_before x y z l m least.1 (sym (left_out (ties before x) w l is) ∙ some))
      where
        by : (b : Bool) → ties before x w ≡ b → (ties before x w ≡ false → before x y ≡ false) → before x y ≡ false
        by true is again = o.chain x w y (tie_parts x w is).0 least.0
        by false is again = again is

    heads_tie : (y z : X) (ys zs : List X) → Least y ys → filter (ties before z) (y ∷ ys) ≡ filter (ties before z) (z ∷ zs)
        → before z y ≡ false
    heads_tie y z ys zs least same =
        not_before z y z (y ∷ ys) (filter (ties before z) zs) (itself y, least) (same ∙ filtered (ties before z) z zs (tie_itself z))

    same_head : (y z : X) (ys zs : List X) → y ∷ ys ≡ z ∷ zs → y ≡ z
    same_head y z ys zs e = cc

    same_tail : (y z : X) (ys zs : List X) → y ∷ ys ≡ z ∷ zs → ys ≡ zs
    same_tail y z ys zs e = cc

    tails_same : (x y : X) (ys zs : List X) → filter (ties before x) (y ∷ ys) ≡ filter (ties before x) (y ∷ zs)
        → filter (ties before x) ys ≡ filter (ties before x) zs
    tails_same x y ys zs same = by (ties before x y) refl
      where
        by : (b : Bool) → ties before x y ≡ b → filter (ties before x) ys ≡ filter (ties before x) zs
        by true is = same_tail y y _ _ (sym (filtered (ties before x) y ys is) ∙ same ∙ filtered (ties before x) y zs is)
        by false is = sym (left_out (ties before x) y ys is) ∙ same ∙ left_out (ties before x) y zs is

    -- two lists that rise and have the same elements of each tie are equal
    same_from_ties : (ys zs : List X) → Rises ys → Rises zs → ((x : X) → filter (ties before x) ys ≡ filter (ties before x) zs) → ys ≡ zs
    same_from_ties [] [] a b same = refl
    same_from_ties [] (z ∷ zs) a b same = let e = same z ∙ filtered (ties before z) z zs (tie_itself z) in absurd cc
    same_from_ties (y ∷ ys) [] a b same = let e = sym (filtered (ties before y) y ys (tie_itself y)) ∙ same y in absurd cc
    same_from_ties (y ∷ ys) (z ∷ zs) a b same =
        let tied = tie_from y z (heads_tie z y zs ys b.0 (sym (same y))) (heads_tie y z ys zs a.0 (same z)) in
        let first : y ≡ z = same_head y z _ _ (sym (filtered (ties before y) y ys (tie_itself y)) ∙ same y ∙ filtered (ties before y) z zs tied) in
        let tails = λ (x : X). tails_same x y ys zs (same x ∙ ap (λ w. filter (ties before x) (w ∷ zs)) (sym first)) in
        let rest : ys ≡ zs = same_from_ties ys zs a.1 b.1 tails in
        cc

    -- ---- a list in order rises, and keeps its ties
    least_placed : (w x : X) (l : List X) → before x w ≡ false → Least w l → Least w (placed before x l)
    least_placed w x [] h least = (h, tt)
    least_placed w x (y ∷ l) h least = by (before y x) (least_placed w x l h least.1)
      where
        by : (b : Bool) → Least w (placed before x l) → Least w (if b then y ∷ placed before x l else x ∷ y ∷ l)
        by true again = (least.0, again)
        by false again = (h, least)

    least_chain : (x y : X) (l : List X) → before y x ≡ false → Least y l → Least x l
    least_chain x y [] h least = tt
    least_chain x y (w ∷ l) h least = (o.chain w y x least.0 h, least_chain x y l h least.1)

    rises_placed : (x : X) (l : List X) → Rises l → Rises (placed before x l)
    rises_placed x [] rises = (tt, tt)
    rises_placed x (y ∷ l) rises = by (before y x) refl (rises_placed x l rises.1)
      where
        by : (b : Bool) → before y x ≡ b → Rises (placed before x l) → Rises (if b then y ∷ placed before x l else x ∷ y ∷ l)
        by true is again = (least_placed y x l (o.one_way y x is) rises.0, again)
        by false is again = ((is, least_chain x y l is rises.0), rises)

    pub rises_in_order : (xs : List X) → Rises (in_order before xs)
    rises_in_order [] = tt
    rises_in_order (x ∷ xs) = rises_placed x (in_order before xs) (rises_in_order xs)

    -- of two of which one stands before the other, only one ties with a third
    one_ties : (w x y : X) → before y x ≡ true → ties before w x ≡ true → ties before w y ≡ true → ⊥
    one_ties w x y is a b = false≢true (sym (o.chain y w x (tie_parts w y b).1 (tie_parts w x a).0) ∙ is)

    swapped : (p q : Bool) (x y : X) (l : List X) → (p ≡ true → q ≡ true → ⊥)
        → cond q (y ∷ cond p (x ∷ l) l) (cond p (x ∷ l) l) ≡ cond p (x ∷ cond q (y ∷ l) l) (cond q (y ∷ l) l)
    swapped true true x y l never = absurd (never refl refl)
    swapped true false x y l never = refl
    swapped false true x y l never = refl
    swapped false false x y l never = refl

    ties_placed : (w x : X) (l : List X) → filter (ties before w) (placed before x l) ≡ filter (ties before w) (x ∷ l)
    ties_placed w x [] = refl
    ties_placed w x (y ∷ l) = by (before y x) refl (ties_placed w x l)
      where
        by : (b : Bool) → before y x ≡ b → filter (ties before w) (placed before x l) ≡ filter (ties before w) (x ∷ l)
            → filter (ties before w) (if b then y ∷ placed before x l else x ∷ y ∷ l) ≡ filter (ties before w) (x ∷ y ∷ l)
        by true is again =
            ap (λ m. cond (ties before w y) (y ∷ m) m) again
            ∙ swapped (ties before w x) (ties before w y) x y (filter (ties before w) l) (one_ties w x y is)
        by false is again = refl

    ties_in_order : (w : X) (xs : List X) → filter (ties before w) (in_order before xs) ≡ filter (ties before w) xs
    ties_in_order w [] = refl
    ties_in_order w (x ∷ xs) = ties_placed w x (in_order before xs) ∙ ap (λ m. cond (ties before w x) (x ∷ m) m) (ties_in_order w xs)

    pub in_order-from_sort : (xs ys : List X) → IsSortedBy before ys → IsStableBy before xs ys → ys ≡ in_order before xs
    in_order-from_sort xs ys sorted stable =
        same_from_ties ys (in_order before xs) (rises_from ys (sorted_far before o ys sorted)) (rises_in_order xs) (λ w. stable w ∙ sym (ties_in_order w xs))

-- ---- what is read of the elements decides their order
module _ {X Y : Type 0} (f : X → Y) (before : Y → Y → Bool) where
  abbrev lt : X → X → Bool
  lt a b = before (f a) (f b)

  map-placed : (x : X) (l : List X) → map f (placed lt x l) ≡ placed before (f x) (map f l)
  map-placed x [] = refl
  map-placed x (y ∷ l) = by (lt y x) (map-placed x l)
    where
      by : (b : Bool) → map f (placed lt x l) ≡ placed before (f x) (map f l)
          → map f (if b then y ∷ placed lt x l else x ∷ y ∷ l) ≡ (if b then f y ∷ placed before (f x) (map f l) else f x ∷ f y ∷ map f l)
      by true again = ap (λ m. f y ∷ m) again
      by false again = refl

  pub map-in_order : (xs : List X) → map f (in_order lt xs) ≡ in_order before (map f xs)
  map-in_order [] = refl
  map-in_order (x ∷ xs) = map-placed x (in_order lt xs) ∙ ap (placed before (f x)) (map-in_order xs)

-- what a stable sort by a closure leaves, where each call of it compares what is read of two elements
pub in_order-from_sort_by : {X Y : Type 0} (f : X → Y) (R : Y → Y → Ordering) → IsTotalOrder R
    → {F : Type 0} {g : Mut F (Bor X × (Bor X × Unit {0})) Ordering} {closure : F} (xs ys : List X)
    → IsSortedByClosure g closure ys → IsStableByClosure g closure xs ys
    → ((c : F) (a : Bor X × (Bor X × Unit {0})) (r : Ordering) (d : F) → Called g c a r d → r ≡ R (f a.0.now) (f a.1.0.now))
    → map f ys ≡ in_order (λ a b. is_lt (R a b)) (map f xs)
in_order-from_sort_by {X} {Y} f R o {F} {g} {closure} xs ys sorted stable calls =
    let lt : X → X → Bool = λ a b. is_lt (R (f a) (f b)) in
    let weak : IsStrictWeakOrder lt = ranks_by o f in
    let compares : ComparesAs g lt closure = answers_always g (λ a r. is_lt r ≡ lt a.0.now a.1.0.now) closure (λ c a r d h. ap is_lt (calls c a r d h)) in
    ap (map f) (in_order-from_sort lt weak xs ys (sorted lt weak compares) (stable lt weak compares))
    ∙ map-in_order f (λ a b. is_lt (R a b)) xs
