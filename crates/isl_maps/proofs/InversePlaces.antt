-- Where columns stand when a piece is turned round, and the numbers that are found there.
use Rattle.std.proofs.Common.{◌≡◌, ◌≢◌, ◌⊎◌, inl, inr, refl, sym, ap, ap₂, ◌∙◌, arith, ℕ, ◌+◌, ◌-◌, ◌<◌, ◌≤◌, ℤ, pos, List, [], ◌++◌}
use Rattle.std.proofs.Common.{All, length, length-append, append_assoc, get_or, drop, take}
use Rattle.std.specs.List.{range_with_len}
use Rattle.std.proofs.lemmas.List.{append-nil, drop_at, length-drop, length-take-le, map-append}
use Rattle.std.proofs.lemmas.List.{take_at, take-append-drop}
use Rattle.std.proofs.lemmas.List.Elements.{All-append}
use Rattle.std.proofs.lemmas.List.FromFn.{length-range_with_len, get_or-range_with_len}
use Rattle.isl_space.specs.Form.{width_of}
use Rattle.isl_space.specs.SpaceForm.{SpaceForm, set_of, map_of, coordinates_of}
use Rattle.isl_piece.specs.Meet.{numbers_at}
use Rattle.isl_piece.specs.Placed.{ArePlacesAmong}
use Rattle.isl_piece.proofs.PlacedLaws.{first_apart, first_inside, numbers_at-first, numbers_at-longer}
use Rattle.isl_union.proofs.PlacesLaws.{numbers_behind}
use Rattle.isl_products.proofs.PickLaws.{apart_append, range_apart, range_below}
use Rattle.isl_maps.specs.Inverse.{inverse_space, inverse_numbers, inverse_places}
use Rattle.isl_maps.specs.Places.{exchanged_places}

-- ---- places that are apart
-- the numbers of two ranges differ
ranges_differ : (a m b n : ℕ) → (a + m ≤ b) ⊎ (b + n ≤ a) → (i j d : ℕ) → i < length (range_with_len a m) → j < length (range_with_len b n)
    → get_or (range_with_len a m) i d ≢ get_or (range_with_len b n) j d
ranges_differ a m b n h i j d low high e =
    let first = length-range_with_len a m in
    let second = length-range_with_len b n in
    let x = get_or-range_with_len a m i d (omega arith) in
    let y = get_or-range_with_len b n j d (omega arith) in
    elim h [ inl before ↦ absurd (omega arith) | inr after ↦ absurd (omega arith) ]

pub inverse_apart : (p : ℕ) (space : SpaceForm) → ArePlacesAmong (p + coordinates_of space) (inverse_places p space)
inverse_apart p (set_of form) = record {
  inside = first_inside (p + width_of form) (p + width_of form) (omega arith);
  apart = first_apart (p + width_of form);
}
inverse_apart p (map_of from to) =
    let m = width_of from in
    let n = width_of to in
    let second = range_with_len (p + n) m in
    let third = range_with_len p n in
    record {
      inside = All-append (λ q. q < p + (m + n)) (range_with_len 0 p) (second ++ third) (range_below 0 p (p + (m + n)) (omega arith))
          (All-append (λ q. q < p + (m + n)) second third (range_below (p + n) m (p + (m + n)) (omega arith))
          (range_below p n (p + (m + n)) (omega arith)));
      apart = apart_append (range_with_len 0 p) (second ++ third) (range_apart 0 p)
          (apart_append second third (range_apart (p + n) m) (range_apart p n) (ranges_differ (p + n) m p n (inr (omega arith))))
          (λ i j d low high e. by p m n i j d low high e);
    }
  where
    by : (p m n i j d : ℕ) → i < length (range_with_len 0 p) → j < length (range_with_len (p + n) m ++ range_with_len p n)
        → get_or (range_with_len 0 p) i d ≢ get_or (range_with_len (p + n) m ++ range_with_len p n) j d
    by p m n i j d low high e =
        let first = length-range_with_len 0 p in
        let x = get_or-range_with_len 0 p i d (omega arith) in
        let bound : p ≤ get_or (range_with_len (p + n) m ++ range_with_len p n) j d =
        All-append (λ q. p ≤ q) (range_with_len (p + n) m) (range_with_len p n) (not_below (p + n) m (omega arith))
        (not_below p n (omega arith)) j d high in
        absurd (omega arith)
      where
        not_below : (a k : ℕ) → p ≤ a → All (λ q. p ≤ q) (range_with_len a k)
        not_below a k h i d l =
            let long = length-range_with_len a k in
            let at = get_or-range_with_len a k i d (omega arith) in
            omega arith

pub length-inverse_places : (p : ℕ) (space : SpaceForm) → length (inverse_places p space) ≡ p + coordinates_of space
length-inverse_places p (set_of form) = length-range_with_len 0 (p + width_of form)
length-inverse_places p (map_of from to) =
    let m = width_of from in
    let n = width_of to in
    let a = length-range_with_len 0 p in
    let b = length-range_with_len (p + n) m in
    let c = length-range_with_len p n in
    let d = length-append (range_with_len 0 p) (range_with_len (p + n) m ++ range_with_len p n) in
    let e = length-append (range_with_len (p + n) m) (range_with_len p n) in
    omega arith

-- ---- the numbers that are found there
-- those that stand between others
pub numbers_between : (xs ys zs : List ℤ) (a n : ℕ) → a ≡ length xs → n ≡ length ys
    → numbers_at (range_with_len a n) (xs ++ (ys ++ zs)) ≡ ys
numbers_between xs ys zs a n first second =
    ap (numbers_at (range_with_len a n)) (sym (append_assoc xs ys zs))
    ∙ numbers_at-longer (range_with_len a n) (xs ++ ys) zs (range_below a n (length (xs ++ ys)) (let l = length-append xs ys in
    omega arith))
    ∙ ap (λ k. numbers_at (range_with_len k n) (xs ++ ys)) first ∙ numbers_behind xs ys n second

pub exchanged : (ps ys zs : List ℤ) (p m n : ℕ) → p ≡ length ps → m ≡ length zs → n ≡ length ys
    → numbers_at (exchanged_places p m n) (ps ++ (ys ++ zs)) ≡ ps ++ (zs ++ ys)
exchanged ps ys zs p m n first second third =
    let all = ps ++ (ys ++ zs) in
    let f : ℕ → ℤ = λ q. get_or all q (pos 0) in
    let front : numbers_at (range_with_len 0 p) all ≡ ps = ap (λ k. numbers_at (range_with_len 0 k) all) first ∙
    numbers_at-first ps (ys ++ zs) in
    let last : numbers_at (range_with_len (p + n) m) all ≡ zs =
    ap (numbers_at (range_with_len (p + n) m)) (sym (append_assoc ps ys zs))
    ∙ ap (λ k. numbers_at (range_with_len k m) ((ps ++ ys) ++ zs)) (let l = length-append ps ys in let e : p + n
    ≡ length (ps ++ ys) = omega arith in e) ∙ numbers_behind (ps ++ ys) zs m second in
    let middle : numbers_at (range_with_len p n) all ≡ ys = numbers_between ps ys zs p n first third in
    map-append f (range_with_len 0 p) (range_with_len (p + n) m ++ range_with_len p n)
    ∙ ap₂ (λ k l. k ++ l) front (map-append f (range_with_len (p + n) m) (range_with_len p n) ∙ ap₂ (λ k l. k ++ l) last middle)

-- the point of an element, where columns stand turned round, is that of the element turned round
pub numbers_turned : (ps xs : List ℤ) (p : ℕ) (space : SpaceForm) → p ≡ length ps → length xs ≡ coordinates_of space
    → numbers_at (inverse_places p (inverse_space space)) (ps ++ xs) ≡ ps ++ inverse_numbers space xs
numbers_turned ps xs p (set_of form) first wide =
    let long : p + width_of form ≡ length (ps ++ xs) = let l = length-append ps xs in omega arith in
    let whole : numbers_at (range_with_len 0 (length (ps ++ xs))) ((ps ++ xs) ++ []) ≡ ps ++ xs = numbers_at-first (ps ++ xs) [] in
    ap (λ k. numbers_at (range_with_len 0 k) (ps ++ xs)) long ∙
    ap (numbers_at (range_with_len 0 (length (ps ++ xs)))) (sym (append-nil (ps ++ xs))) ∙ whole
numbers_turned ps xs p (map_of from to) first wide =
    let m = width_of from in
    let ys = take m xs in
    let zs = drop m xs in
    let short : length ys ≡ m = length-take-le m xs (omega arith) in
    let rest : length zs ≡ width_of to = length-drop m xs ∙ omega arith in
    ap (λ l. numbers_at (inverse_places p (map_of to from)) (ps ++ l)) (sym (take-append-drop m xs))
    ∙ exchanged ps ys zs p (width_of to) m first (sym rest) (sym short)

-- ---- an element turned round
pub inverse_twice : (space : SpaceForm) → inverse_space (inverse_space space) ≡ space
inverse_twice (set_of form) = refl
inverse_twice (map_of from to) = refl

pub inverse_coordinates : (space : SpaceForm) → coordinates_of (inverse_space space) ≡ coordinates_of space
inverse_coordinates (set_of form) = refl
inverse_coordinates (map_of from to) = omega arith

pub length-inverse_numbers : (space : SpaceForm) (xs : List ℤ) → length (inverse_numbers space xs) ≡ length xs
length-inverse_numbers (set_of form) xs = refl
length-inverse_numbers (map_of from to) xs =
    let m = width_of from in
    let whole = ap (length {A = ℤ}) (take-append-drop m xs) in
    let one = length-append (take m xs) (drop m xs) in
    let other = length-append (drop m xs) (take m xs) in
    omega arith

pub turned_pair : (m : ℕ) (x y : List ℤ) → length y ≡ m → drop m (y ++ x) ++ take m (y ++ x) ≡ x ++ y
turned_pair m x y e = ap₂ (λ k l. k ++ l) (drop_at y x m e) (take_at y x m e)
