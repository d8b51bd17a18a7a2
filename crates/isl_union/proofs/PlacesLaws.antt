-- The places of names in a list of all of them.
use Rattle.std.proofs.Common.{◌≡◌, ◌≢◌, refl, sym, ap, ap₂, ◌∙◌, arith, subst, ◌⊎◌, inl, inr, ℕ, zero, suc, ◌+◌, ◌-◌, ◌<◌, ◌≤◌}
use Rattle.std.proofs.Common.{ℤ, pos, List, [], ◌∷◌, ◌++◌, All, Contains, length, length-append, get_or, map, position, take}
use Rattle.std.proofs.Common.{append_assoc, slice_get, slice_index, Some}
use Rattle.std.specs.List.{range_with_len}
use Rattle.std.specs.Str.{bytes_eq}
use Rattle.std.proofs.lemmas.Grind.{common_steps}
use Rattle.std.proofs.lemmas.Bool.{cases_lt, false≢true, false_from_ne_true}
use Rattle.std.proofs.lemmas.List.{get_or-map, length-map, get_or_append_left, get_or-append-add, map-append, get_or_default, ext_get_or}
use Rattle.std.proofs.lemmas.List.{take_more}
use Rattle.std.proofs.lemmas.List.Elements.{All-head, All-tail, All-append}
use Rattle.std.proofs.lemmas.List.FromFn.{length-range_with_len, get_or-range_with_len}
use Rattle.std.proofs.lemmas.List.Sums.{fails_before_first, passes_at_first, position_or_len_is}
use Rattle.std.proofs.lemmas.Option.{slice_get-get_or, same_Some}
use Rattle.std.proofs.lemmas.Slice.Eq.{bytes_eq-Decides}
use Rattle.isl_space.specs.Name.{Name}
use Rattle.isl_space.specs.Names.{AreDistinct, ArePlaces}
use Rattle.isl_space.specs.Valuation.{Valuation, values_of, value_at}
use Rattle.isl_space.proofs.PlacesLaws.{place_within, places_differ}
use Rattle.isl_space.proofs.ValuationLaws.{length-values_of, get_or-values_of}
use Rattle.isl_piece.specs.Meet.{numbers_at}
use Rattle.isl_piece.specs.Placed.{ArePlacesAmong}
use Rattle.isl_union.specs.Moved.{place_in, places_in}

-- a name that is there stands at its place
place_inside : (all : List Name) (n : Name) → Contains all n → place_in all n < length all
place_inside all n there = elim (cases_lt (place_in all n) (length all)) [
  | inl low ↦ low
  | inr high ↦
      let inside = there.1 in
      absurd (false≢true (sym (fails_before_first (bytes_eq n) all there.0 n (omega arith)) ∙ (bytes_eq-Decides n _).1 (sym there.2)))
]

place_at : (all : List Name) (n : Name) → Contains all n → slice_get all (place_in all n) ≡ Some n
place_at all n there =
    let inside = place_inside all n there in
    slice_get-get_or all (place_in all n) n inside ∙ ap Some (sym ((bytes_eq-Decides n _).0 (passes_at_first (bytes_eq n) all n inside)))

pub places_are : (all names : List Name) → All (Contains all) names → ArePlaces all names (places_in all names)
places_are all names there = record {
  count = length-map names (place_in all);
  at = λ i within.
      let is : slice_index (places_in all names) i ≡ place_in all (get_or names i []) = get_or-map (place_in all) names i [] 0 within in
      ap (slice_get all) is ∙ place_at all (get_or names i []) (there i [] within) ∙ sym (slice_get-get_or names i [] within);
}

-- ---- names of which each is among all have places that are apart
pub places_apart : (all names : List Name) → AreDistinct names → All (Contains all) names
    → ArePlacesAmong (length all) (places_in all names)
places_apart all names distinct there =
    let are = places_are all names there in
    record {
      inside = λ k d l. rw (get_or_default (places_in all names) k d 0 l) (place_within all names (places_in all names) k are
          (rw (sym are.count) l));
      apart = λ i j d before within.
          rw (get_or_default (places_in all names) i d 0 (omega arith), get_or_default (places_in all names) j d 0 within)
          (places_differ all names (places_in all names) i j distinct are before (rw (sym are.count) within));
    }

-- ---- the numbers at the places
numbers_of_names : (all names : List Name) (v : Valuation) (coordinates : List ℤ) → All (Contains all) names
    → numbers_at (places_in all names) (values_of all v ++ coordinates) ≡ values_of names v
numbers_of_names all [] v coordinates there = refl
numbers_of_names all (n ∷ names) v coordinates there =
    let here = All-head (Contains all) n names there in
    let low : place_in all n < length (values_of all v) = rw (length-values_of all v) (place_inside all n here) in
    let first : get_or (values_of all v ++ coordinates) (place_in all n) (pos 0) ≡ value_at v n =
    get_or_append_left (values_of all v) coordinates (pos 0) (place_in all n) low ∙
    get_or-values_of all v (place_in all n) n (place_at all n here) in
    rw first (ap (λ l. value_at v n ∷ l) (numbers_of_names all names v coordinates (All-tail (Contains all) n names there)))

pub numbers_behind : (xs ys : List ℤ) (n : ℕ) → n ≡ length ys → numbers_at (range_with_len (length xs) n) (xs ++ ys) ≡ ys
numbers_behind xs ys n e =
    ext_get_or (pos 0) (numbers_at (range_with_len (length xs) n) (xs ++ ys)) ys (long ∙ e) (λ i l. at i (rw long at l))
  where
    long : length (numbers_at (range_with_len (length xs) n) (xs ++ ys)) ≡ n
    long = length-map (range_with_len (length xs) n) (λ p. get_or (xs ++ ys) p (pos 0)) ∙ length-range_with_len (length xs) n

    at : (i : ℕ) → i < n → get_or (numbers_at (range_with_len (length xs) n) (xs ++ ys)) i (pos 0) ≡ get_or ys i (pos 0)
    at i l =
        get_or-map (λ p. get_or (xs ++ ys) p (pos 0)) (range_with_len (length xs) n) i 0 (pos 0) (rw (length-range_with_len (length xs) n)
        l)
        ∙ ap (λ p. get_or (xs ++ ys) p (pos 0)) (get_or-range_with_len (length xs) n i 0 l) ∙ get_or-append-add xs ys i (pos 0)

pub numbers_of_columns : (all names : List Name) (v : Valuation) (coordinates : List ℤ) (n : ℕ) → All (Contains all) names
    → n ≡ length coordinates
    → numbers_at (places_in all names ++ range_with_len (length all) n) (values_of all v ++ coordinates) ≡ values_of names v ++ coordinates
numbers_of_columns all names v coordinates n there e =
    let long = length-values_of all v in
    let behind : numbers_at (range_with_len (length all) n) (values_of all v ++ coordinates) ≡ coordinates =
    ap (λ k. numbers_at (range_with_len k n) (values_of all v ++ coordinates)) (sym long) ∙
    numbers_behind (values_of all v) coordinates n e in
    map-append (λ p. get_or (values_of all v ++ coordinates) p (pos 0)) (places_in all names) (range_with_len (length all) n)
    ∙ ap₂ (λ xs ys. xs ++ ys) (numbers_of_names all names v coordinates there) behind

-- ---- the columns of a piece
pub columns_apart : (parameters n : ℕ) (places : List ℕ) → ArePlacesAmong parameters places
    → ArePlacesAmong (parameters + n) (places ++ range_with_len parameters n)
columns_apart parameters n places are = record {
  inside = All-append (λ p. p < parameters + n) places (range_with_len parameters n) (λ k d l. let low = are.inside k d l in omega arith)
      (λ k d l. let at = get_or-range_with_len parameters n k d (omega (arith, length-range_with_len parameters n)) in omega (
        arith,
        length-range_with_len parameters n,
      ));
  apart = λ i j d before within. by i j d before (rw (
    length-append places (range_with_len parameters n),
    length-range_with_len parameters n,
  ) at within) (cases_lt i (length places)) (cases_lt j (length places));
}
  where
    front : (k d : ℕ) → k < length places → get_or (places ++ range_with_len parameters n) k d ≡ get_or places k d
    front k d l = get_or_append_left places (range_with_len parameters n) d k l

    behind : (k d : ℕ) → length places ≤ k → k < length places + n → get_or (places ++ range_with_len parameters n) k d
        ≡ parameters + (k - length places)
    behind k d h l =
        let again : length places + (k - length places) ≡ k = omega arith in
        ap (λ m. get_or (places ++ range_with_len parameters n) m d) (sym again) ∙
        get_or-append-add places (range_with_len parameters n) (k - length places) d
        ∙ get_or-range_with_len parameters n (k - length places) d (omega arith)

    by : (i j d : ℕ) → i < j → j < length places + n → (i < length places) ⊎ (length places ≤ i) → (j < length places) ⊎ (length places ≤ j)
        → get_or (places ++ range_with_len parameters n) i d ≢ get_or (places ++ range_with_len parameters n) j d
    by i j d before within (inl p) (inl q) e = are.apart i j d before q (sym (front i d p) ∙ e ∙ front j d q)
    by i j d before within (inl p) (inr q) e = let a = front i d p in let b = behind j d q within in let low = are.inside i d p in
        omega arith
    by i j d before within (inr p) (inl q) e = absurd (omega arith)
    by i j d before within (inr p) (inr q) e = let a = behind i d p (omega arith) in let b = behind j d q within in omega arith

-- ---- all names, at their own places
pub places_of_all : (all : List Name) → AreDistinct all → places_in all all ≡ range_with_len 0 (length all)
places_of_all all distinct =
    let long : length (places_in all all) ≡ length all = length-map all (place_in all) in
    ext_get_or 0 (places_in all all) (range_with_len 0 (length all)) (long ∙
    sym (length-range_with_len 0 (length all))) (λ i l. at i (rw long at l))
  where
    own : (i : ℕ) → i < length all → place_in all (get_or all i []) ≡ i
    own i l =
        position_or_len_is (bytes_eq (get_or all i [])) all i [] (omega arith)
        (λ k before. false_from_ne_true _ (λ same. distinct k i [] before l (sym ((bytes_eq-Decides (get_or all i []) _).0 same))))
        (λ low. (bytes_eq-Decides (get_or all i []) _).1 refl)

    at : (i : ℕ) → i < length all → get_or (places_in all all) i 0 ≡ get_or (range_with_len 0 (length all)) i 0
    at i l = let same : i ≡ 0 + i = omega arith in get_or-map (place_in all) all i [] 0 l ∙ own i l ∙ same ∙
        sym (get_or-range_with_len 0 (length all) i 0 l)

-- ---- one more name
pub name_there : (all names : List Name) (i : ℕ) (n : Name) → All (Contains all) names → i < length names → slice_get names i ≡ Some n
    → Contains all n
name_there all names i n there low at = subst (Contains all) (same_Some _ _ (sym (slice_get-get_or names i [] low) ∙ at)) (there i [] low)

pub place_found : (all : List Name) (n : Name) (place : ℕ) → Some place ≡ position (bytes_eq n) all → place ≡ place_in all n
place_found all n place e = grind (arith, common_steps)

pub places_more : (all names : List Name) (places pushed : List ℕ) (i place : ℕ) (n : Name) → i < length names → slice_get names i ≡ Some n
    → Some place ≡ position (bytes_eq n) all
    → places ≡ places_in all (take i names) → pushed ≡ places ++ place ∷ [] → pushed ≡ places_in all (take (i + 1) names)
places_more all names places pushed i place n low at found so_far is =
    let here : get_or names i [] ≡ n = same_Some _ _ (sym (slice_get-get_or names i [] low) ∙ at) in
    let one : place ∷ [] ≡ map (place_in all) (get_or names i [] ∷ []) = ap (λ p. p ∷ []) (place_found all n place found ∙
    ap (place_in all) (sym here)) in
    is ∙ ap₂ (λ xs ys. xs ++ ys) so_far one ∙ sym (map-append (place_in all) (take i names) (get_or names i [] ∷ [])) ∙
    ap (map (place_in all)) (sym (take_more names i [] low))

-- two lists that are the same so far, with the same next name
pub same_more : (a b : List Name) (i : ℕ) (x y : Name) → i < length a → i < length b → slice_get a i ≡ Some x → slice_get b i ≡ Some y
    → x ≡ y → take i a ≡ take i b
    → take (i + 1) a ≡ take (i + 1) b
same_more a b i x y low high first second same so_far =
    let one : get_or a i [] ≡ x = same_Some _ _ (sym (slice_get-get_or a i [] low) ∙ first) in
    let other : get_or b i [] ≡ y = same_Some _ _ (sym (slice_get-get_or b i [] high) ∙ second) in
    take_more a i [] low ∙ ap₂ (λ l n. l ++ n ∷ []) so_far (one ∙ same ∙ sym other) ∙ sym (take_more b i [] high)

-- ---- one more place
pub ranges_together : (a m n : ℕ) → range_with_len a m ++ range_with_len (a + m) n ≡ range_with_len a (m + n)
ranges_together a zero n =
    let same : a + 0 ≡ a = omega arith in
    let count : n ≡ 0 + n = omega arith in
    ap (λ k. range_with_len k n) same ∙ ap (range_with_len a) count
ranges_together a (suc m) n =
    let next : a + suc m ≡ a + 1 + m = omega arith in
    let count : suc (m + n) ≡ suc m + n = omega arith in
    ap (λ l. a ∷ l) (ap (λ k. range_with_len (a + 1) m ++ range_with_len k n) next ∙ ranges_together (a + 1) m n) ∙
    ap (range_with_len a) count

pub range_more : (places pushed before : List ℕ) (a n : ℕ) → places ≡ before ++ range_with_len a n → pushed ≡ places ++ (a + n) ∷ []
    → pushed ≡ before ++ range_with_len a (n + 1)
range_more places pushed before a n so_far is =
    is ∙ ap (λ l. l ++ (a + n) ∷ []) so_far ∙ append_assoc before (range_with_len a n) ((a + n) ∷ []) ∙
    ap (λ l. before ++ l) (ranges_together a n 1)
