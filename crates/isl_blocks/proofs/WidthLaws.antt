-- How many columns blocks have, and where they begin.
use Rattle.std.proofs.Common.{◌≡◌, refl, ap, ◌∙◌, arith, ℕ, zero, suc, ◌+◌, ◌<◌, ◌≤◌, ℤ, pos, List, [], ◌∷◌, ◌++◌}
use Rattle.std.proofs.Common.{length, length-append, get_or, take}
use Rattle.std.specs.List.{range_with_len}
use Rattle.std.proofs.lemmas.List.{get_or_append_left, get_or-append-add}
use Rattle.std.proofs.lemmas.List.FromFn.{length-range_with_len}
use Rattle.isl_blocks.specs.Blocks.{block_at, block_places, numbers_of, picked_width, places_of, total, width_at, widths_of}

-- ---- widths
total_step : (widths : List ℕ) (i d : ℕ) → i < length widths → total (take (suc i) widths) ≡ total (take i widths) + get_or widths i d
total_step [] i d l = absurd (omega arith)
total_step (width ∷ widths) zero d l = omega arith
total_step (width ∷ widths) (suc i) d l = let more = total_step widths i d (omega arith) in omega (arith, more)

pub total_more : (widths : List ℕ) (i d : ℕ) → i < length widths → total (take (i + 1) widths) ≡ total (take i widths) + get_or widths i d
total_more widths i d l =
    let next : i + 1 ≡ suc i = omega arith in
    ap (λ n. total (take n widths)) next ∙ total_step widths i d l

pub total_take : (n : ℕ) (widths : List ℕ) → total (take n widths) ≤ total widths
total_take zero widths = omega arith
total_take (suc n) [] = omega arith
total_take (suc n) (width ∷ widths) = let less = total_take n widths in omega (arith, less)

pub width_is : (widths : List ℕ) (i d : ℕ) → i < length widths → width_at widths i ≡ get_or widths i d
width_is [] i d l = absurd (omega arith)
width_is (width ∷ widths) zero d l = refl
width_is (width ∷ widths) (suc i) d l = width_is widths i d (omega arith)

-- a block that has a column is one of these
pub width_inside : (widths : List ℕ) (i at : ℕ) → at < width_at widths i → i < length widths
width_inside [] i at l = absurd (omega arith)
width_inside (width ∷ widths) zero at l = omega arith
width_inside (width ∷ widths) (suc i) at l = let less = width_inside widths i at l in omega (arith, less)

-- a block ends before those behind it begin
pub ends_before : (widths : List ℕ) (i j : ℕ) → i < j → j ≤ length widths
    → total (take i widths) + width_at widths i ≤ total (take j widths)
ends_before [] i j before inside = absurd (omega arith)
ends_before (width ∷ widths) i zero before inside = absurd (omega arith)
ends_before (width ∷ widths) zero (suc j) before inside = omega arith
ends_before (width ∷ widths) (suc i) (suc j) before inside =
    let less = ends_before widths i j (omega arith) (omega arith) in omega (arith, less)

-- and within all columns
pub ends_inside : (widths : List ℕ) (i : ℕ) → total (take i widths) + width_at widths i ≤ total widths
ends_inside [] zero = omega arith
ends_inside [] (suc i) = omega arith
ends_inside (width ∷ widths) zero = omega arith
ends_inside (width ∷ widths) (suc i) = let less = ends_inside widths i in omega (arith, less)

-- ---- places
pub block_places_are : (start : ℕ) (widths : List ℕ) (i : ℕ) → i < length widths
    → block_places start widths i ≡ range_with_len (start + total (take i widths)) (width_at widths i)
block_places_are start [] i l = absurd (omega arith)
block_places_are start (width ∷ widths) zero l = ap (λ n. range_with_len n width) (omega arith)
block_places_are start (width ∷ widths) (suc i) l =
    block_places_are (start + width) widths i (omega arith) ∙ ap (λ n. range_with_len n (width_at widths i)) (omega arith)

pub block_places_none : (start : ℕ) (widths : List ℕ) (i : ℕ) → length widths ≤ i → block_places start widths i ≡ []
block_places_none start [] i l = refl
block_places_none start (width ∷ widths) zero l = absurd (omega arith)
block_places_none start (width ∷ widths) (suc i) l = block_places_none (start + width) widths i (omega arith)

block_places_long : (start : ℕ) (widths : List ℕ) (i : ℕ) → length (block_places start widths i) ≡ width_at widths i
block_places_long start [] i = refl
block_places_long start (width ∷ widths) zero = length-range_with_len start width
block_places_long start (width ∷ widths) (suc i) = block_places_long (start + width) widths i

pub places_long : (widths picks : List ℕ) → length (places_of widths picks) ≡ picked_width widths picks
places_long widths [] = refl
places_long widths (i ∷ picks) =
    let all = length-append (block_places 0 widths i) (places_of widths picks) in
    let one = block_places_long 0 widths i in
    let more = places_long widths picks in
    omega (arith, all, one, more)

-- ---- blocks
pub block_long : (blocks : List (List ℤ)) (i : ℕ) → length (block_at blocks i) ≡ width_at (widths_of blocks) i
block_long [] i = refl
block_long (block ∷ blocks) zero = refl
block_long (block ∷ blocks) (suc i) = block_long blocks i

pub numbers_long : (blocks : List (List ℤ)) → length (numbers_of blocks) ≡ total (widths_of blocks)
numbers_long [] = refl
numbers_long (block ∷ blocks) =
    let all = length-append block (numbers_of blocks) in
    let more = numbers_long blocks in
    omega (arith, all, more)

-- a number of a block among all
pub number_in_block : (blocks : List (List ℤ)) (b i : ℕ) → i < length (block_at blocks b)
    → get_or (numbers_of blocks) (total (take b (widths_of blocks)) + i) (pos 0) ≡ get_or (block_at blocks b) i (pos 0)
number_in_block [] b i l = absurd (omega arith)
number_in_block (block ∷ blocks) zero i l =
    ap (λ n. get_or (block ++ numbers_of blocks) n (pos 0)) (omega arith) ∙ get_or_append_left block (numbers_of blocks) (pos 0) i l
number_in_block (block ∷ blocks) (suc b) i l =
    let start = total (take b (widths_of blocks)) in
    ap (λ n. get_or (block ++ numbers_of blocks) n (pos 0)) (by (length block) start)
    ∙ get_or-append-add block (numbers_of blocks) (start + i) (pos 0)
    ∙ number_in_block blocks b i l
  where
    by : (m n : ℕ) → (m + n) + i ≡ m + (n + i)
    by m n = omega arith
