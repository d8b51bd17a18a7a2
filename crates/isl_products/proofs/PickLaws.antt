-- Coordinates that are picked, and where they stand.
use Rattle.std.proofs.Common.{◌≡◌, ◌≢◌, ◌⊎◌, inl, inr, sym, ap, ap₂, ◌∙◌, arith, ℕ, ◌+◌, ◌-◌, ◌<◌, ◌≤◌, ℤ, pos, List, ◌++◌}
use Rattle.std.proofs.Common.{All, length, length-append, get_or, drop, take}
use Rattle.std.specs.List.{range_with_len}
use Rattle.std.proofs.lemmas.Bool.{cases_lt}
use Rattle.std.proofs.lemmas.List.{ext_get_or, get_or-append-add, get_or-drop, get_or-map, get_or-take, get_or_append_left, length-drop}
use Rattle.std.proofs.lemmas.List.{length-map, length-take-le, map-append}
use Rattle.std.proofs.lemmas.List.Elements.{All-append}
use Rattle.std.proofs.lemmas.List.FromFn.{length-range_with_len, get_or-range_with_len}
use Rattle.isl_piece.specs.Meet.{numbers_at}
use Rattle.isl_piece.specs.Placed.{ArePlacesAmong}
use Rattle.isl_piece.proofs.PlacedLaws.{AreApart, numbers_at-first}
use Rattle.isl_products.specs.declared.layout.Pick.{Pick}
use Rattle.isl_products.specs.Layout.{picked, picked_places}

-- ---- the numbers that are found in a range
abbrev number : List ℤ → ℕ → ℤ
number xs k = get_or xs k (pos 0)

numbers_in : (ps xs : List ℤ) (p a n : ℕ) → p ≡ length ps → a + n ≤ length xs
    → numbers_at (range_with_len (p + a) n) (ps ++ xs) ≡ take n (drop a xs)
numbers_in ps xs p a n first inside =
    ext_get_or (pos 0) (numbers_at (range_with_len (p + a) n) (ps ++ xs)) (take n (drop a xs)) (found ∙ sym taken)
    (λ i l. at i (rw found at l))
  where
    count : length (range_with_len (p + a) n) ≡ n
    count = length-range_with_len (p + a) n

    found : length (numbers_at (range_with_len (p + a) n) (ps ++ xs)) ≡ n
    found = length-map (range_with_len (p + a) n) (number (ps ++ xs)) ∙ count

    taken : length (take n (drop a xs)) ≡ n
    taken = let behind = length-drop a xs in length-take-le n (drop a xs) (omega arith)

    at : (i : ℕ) → i < n → number (numbers_at (range_with_len (p + a) n) (ps ++ xs)) i ≡ number (take n (drop a xs)) i
    at i l =
        let place : p + a + i ≡ length ps + (a + i) = omega arith in
        get_or-map (number (ps ++ xs)) (range_with_len (p + a) n) i 0 (pos 0) (rw count l)
        ∙ ap (number (ps ++ xs)) (get_or-range_with_len (p + a) n i 0 l ∙ place) ∙ get_or-append-add ps xs (a + i) (pos 0)
        ∙ sym (get_or-take n (drop a xs) i (pos 0) l ∙ get_or-drop a xs i (pos 0))

-- the numbers at the places of parameters and of picked coordinates are those of the parameters and the picked ones
pub numbers_picked : (ps xs : List ℤ) (p : ℕ) (pick : Pick) → p ≡ length ps
    → pick.before + pick.first + pick.between + pick.second ≤ length xs
    → numbers_at (picked_places p pick) (ps ++ xs) ≡ ps ++ picked pick xs
numbers_picked ps xs p pick first inside =
    let all = ps ++ xs in
    let second = range_with_len (p + pick.before) pick.first in
    let third = range_with_len (p + pick.before + pick.first + pick.between) pick.second in
    let start : p + pick.before + pick.first + pick.between ≡ p + (pick.before + pick.first + pick.between) = omega arith in
    let front : numbers_at (range_with_len 0 p) all ≡ ps = ap (λ k. numbers_at (range_with_len 0 k) all) first ∙ numbers_at-first ps xs in
    let middle = numbers_in ps xs p pick.before pick.first first (omega arith) in
    let last : numbers_at third all ≡ take pick.second (drop (pick.before + pick.first + pick.between) xs) =
    ap (λ k. numbers_at (range_with_len k pick.second) all) start
    ∙ numbers_in ps xs p (pick.before + pick.first + pick.between) pick.second first (omega arith) in
    map-append (number all) (range_with_len 0 p) (second ++ third)
    ∙ ap₂ (λ k l. k ++ l) front (map-append (number all) second third ∙ ap₂ (λ k l. k ++ l) middle last)

-- as many numbers are picked as are to be
pub length-picked : (xs : List ℤ) (pick : Pick) → pick.before + pick.first + pick.between + pick.second ≤ length xs
    → length (picked pick xs) ≡ pick.first + pick.second
length-picked xs pick inside =
    let before = pick.before + pick.first + pick.between in
    let one = length-drop pick.before xs in
    let other = length-drop before xs in
    length-append (take pick.first (drop pick.before xs)) (take pick.second (drop before xs))
    ∙ ap₂ (λ m n. m + n) (length-take-le pick.first (drop pick.before xs) (omega arith))
    (length-take-le pick.second (drop before xs) (omega arith))

-- ---- the places are apart
pub apart_append : (xs ys : List ℕ) → AreApart xs → AreApart ys
    → ((i j d : ℕ) → i < length xs → j < length ys → get_or xs i d ≢ get_or ys j d)
    → AreApart (xs ++ ys)
apart_append xs ys first second between i j d before within =
    by i j before (rw (length-append xs ys) at within) (cases_lt i (length xs)) (cases_lt j (length xs))
  where
    front : (k : ℕ) → k < length xs → get_or (xs ++ ys) k d ≡ get_or xs k d
    front k l = get_or_append_left xs ys d k l

    behind : (k : ℕ) → length xs ≤ k → get_or (xs ++ ys) k d ≡ get_or ys (k - length xs) d
    behind k h =
        let again : length xs + (k - length xs) ≡ k = omega arith in
        ap (λ m. get_or (xs ++ ys) m d) (sym again) ∙ get_or-append-add xs ys (k - length xs) d

    by : (i j : ℕ) → i < j → j < length xs + length ys → (i < length xs) ⊎ (length xs ≤ i) → (j < length xs) ⊎ (length xs ≤ j)
        → get_or (xs ++ ys) i d ≢ get_or (xs ++ ys) j d
    by i j before within (inl p) (inl q) e = first i j d before q (sym (front i p) ∙ e ∙ front j q)
    by i j before within (inl p) (inr q) e = between i (j - length xs) d p (omega arith) (sym (front i p) ∙ e ∙ behind j q)
    by i j before within (inr p) (inl q) e = absurd (omega arith)
    by i j before within (inr p) (inr q) e = second (i - length xs) (j - length xs) d (omega arith) (omega arith) (sym (behind i p) ∙ e ∙
        behind j q)

pub range_apart : (a n : ℕ) → AreApart (range_with_len a n)
range_apart a n i j d before within e =
    let long = length-range_with_len a n in
    let low = get_or-range_with_len a n i d (omega arith) in
    let high = get_or-range_with_len a n j d (omega arith) in
    omega arith

-- the places of a range are from its first on, and before its end
pub range_below : (a n columns : ℕ) → a + n ≤ columns → All (λ p. p < columns) (range_with_len a n)
range_below a n columns h k d l =
    let long = length-range_with_len a n in
    let at = get_or-range_with_len a n k d (omega arith) in
    omega arith

range_from : (bound a n : ℕ) → bound ≤ a → All (λ p. bound ≤ p) (range_with_len a n)
range_from bound a n h k d l =
    let long = length-range_with_len a n in
    let at = get_or-range_with_len a n k d (omega arith) in
    omega arith

below_differ : (bound : ℕ) (xs ys : List ℕ) → All (λ p. p < bound) xs → All (λ p. bound ≤ p) ys
    → (i j d : ℕ) → i < length xs → j < length ys → get_or xs i d ≢ get_or ys j d
below_differ bound xs ys low high i j d p q e =
    let x = low i d p in
    let y = high j d q in
    omega arith

pub places_picked : (p n : ℕ) (pick : Pick) → pick.before + pick.first + pick.between + pick.second ≤ n
    → ArePlacesAmong (p + n) (picked_places p pick)
places_picked p n pick inside =
    let before = p + pick.before in
    let last = p + pick.before + pick.first + pick.between in
    let front = range_with_len 0 p in
    let second = range_with_len before pick.first in
    let third = range_with_len last pick.second in
    record {
      inside = All-append (λ q. q < p + n) front (second ++ third) (range_below 0 p (p + n) (omega arith))
          (All-append (λ q. q < p + n) second third (range_below before pick.first (p + n) (omega arith))
          (range_below last pick.second (p + n) (omega arith)));
      apart = apart_append front (second ++ third) (range_apart 0 p)
          (apart_append second third (range_apart before pick.first) (range_apart last pick.second)
          (below_differ last second third (range_below before pick.first last (omega arith))
          (range_from last last pick.second (omega arith))))
          (below_differ p front (second ++ third) (range_below 0 p p (omega arith))
          (All-append (λ q. p ≤ q) second third (range_from p before pick.first (omega arith))
          (range_from p last pick.second (omega arith))));
    }

pub length-picked_places : (p : ℕ) (pick : Pick) → length (picked_places p pick) ≡ p + (pick.first + pick.second)
length-picked_places p pick =
    let last = p + pick.before + pick.first + pick.between in
    let a = length-range_with_len 0 p in
    let b = length-range_with_len (p + pick.before) pick.first in
    let c = length-range_with_len last pick.second in
    let d = length-append (range_with_len 0 p)
    (range_with_len (p + pick.before) pick.first ++ range_with_len last pick.second) in
    let e = length-append (range_with_len (p + pick.before) pick.first) (range_with_len last pick.second) in
    omega arith
