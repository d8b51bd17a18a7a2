-- The places of picked blocks are among all columns, and apart where no block is picked twice.
use Rattle.std.proofs.Common.{◌≡◌, ◌≢◌, ◌⊎◌, inl, inr, refl, sym, ap, ◌∙◌, arith, ℕ, zero, suc, ◌+◌, ◌-◌, ◌<◌, ◌≤◌, List, [], ◌∷◌}
use Rattle.std.proofs.Common.{◌++◌, All}
use Rattle.std.proofs.Common.{length, length-append, get_or}
use Rattle.std.specs.List.{range_with_len, AllPairs}
use Rattle.std.proofs.lemmas.Bool.{cases_lt}
use Rattle.std.proofs.lemmas.List.{get_or_append_left, get_or-append-add}
use Rattle.std.proofs.lemmas.List.Elements.{All-append, All-head, All-nil, All-tail}
use Rattle.std.proofs.lemmas.List.FromFn.{length-range_with_len, get_or-range_with_len}
use Rattle.isl_piece.specs.Placed.{ArePlacesAmong}
use Rattle.isl_blocks.specs.Blocks.{block_places, places_of, total}

-- at least the one, and below the other
abbrev IsIn : ℕ → ℕ → ℕ → Type 0
IsIn low high p = (low ≤ p) × (p < high)

range_in : (start width high : ℕ) → start + width ≤ high → All (IsIn start high) (range_with_len start width)
range_in start width high fits = λ i d l.
    let n = length-range_with_len start width in
    let at = get_or-range_with_len start width i d (rw n at l) in
    let k : i < width = rw n at l in
    (omega (arith, at), omega (arith, at, k, fits))

-- a block stands behind the start, before the end of all
pub block_in : (start : ℕ) (widths : List ℕ) (i : ℕ) → All (IsIn start (start + total widths)) (block_places start widths i)
block_in start [] i = All-nil (IsIn start (start + 0))
block_in start (width ∷ widths) zero = range_in start width (start + (width + total widths)) (omega arith)
block_in start (width ∷ widths) (suc i) = λ k d l.
    let m = block_in (start + width) widths i k d l in
    let a = m.0 in
    let b = m.1 in
    (omega (arith, a), omega (arith, b))

-- two blocks have no place in common
pub blocks_differ : (start : ℕ) (widths : List ℕ) (i j : ℕ) → i ≢ j → (k l d e : ℕ) → k < length (block_places start widths i)
    → l < length (block_places start widths j) → get_or (block_places start widths i) k d ≢ get_or (block_places start widths j) l e
blocks_differ start [] i j differ k l d e a b same = absurd (omega (arith, a))
blocks_differ start (width ∷ widths) zero zero differ k l d e a b same = absurd (differ refl)
blocks_differ start (width ∷ widths) zero (suc j) differ k l d e a b same =
    let x = (range_in start width (start + width) (omega arith) k d a).1 in
    let y = (block_in (start + width) widths j l e b).0 in
    omega (arith, x, y, same)
blocks_differ start (width ∷ widths) (suc i) zero differ k l d e a b same =
    let x = (range_in start width (start + width) (omega arith) l e b).1 in
    let y = (block_in (start + width) widths i k d a).0 in
    omega (arith, x, y, same)
blocks_differ start (width ∷ widths) (suc i) (suc j) differ k l d e a b same =
    blocks_differ (start + width) widths i j (λ s. differ (ap suc s)) k l d e a b same

-- ---- picked blocks
pub places_inside : (widths picks : List ℕ) → All (λ p. p < total widths) (places_of widths picks)
places_inside widths [] = All-nil (λ p. p < total widths)
places_inside widths (i ∷ picks) =
    All-append (λ p. p < total widths) (block_places 0 widths i) (places_of widths picks)
    (λ k d l. let m = (block_in 0 widths i k d l).1 in omega (arith, m))
    (places_inside widths picks)

-- what differs from each of the picked blocks' places
differs_from : (widths picks : List ℕ) (i : ℕ) → All (λ j. i ≢ j) picks → (k d : ℕ) → k < length (block_places 0 widths i)
    → All (λ q. get_or (block_places 0 widths i) k d ≢ q) (places_of widths picks)
differs_from widths [] i other k d l = All-nil (λ q. get_or (block_places 0 widths i) k d ≢ q)
differs_from widths (j ∷ picks) i other k d l =
    All-append (λ q. get_or (block_places 0 widths i) k d ≢ q) (block_places 0 widths j) (places_of widths picks)
    (λ m e n. blocks_differ 0 widths i j (All-head (λ h. i ≢ h) j picks other) k m d e l n)
    (differs_from widths picks i (All-tail (λ h. i ≢ h) j picks other) k d l)

range_apart : (start width : ℕ) → AllPairs (λ p q. p ≢ q) (range_with_len start width)
range_apart start width = λ i j d before within same.
    let n = length-range_with_len start width in
    let l : j < width = rw n at within in
    let a = get_or-range_with_len start width i d (omega (arith, before, l)) in
    let b = get_or-range_with_len start width j d l in
    omega (arith, a, b, same, before)

block_apart : (start : ℕ) (widths : List ℕ) (i : ℕ) → AllPairs (λ p q. p ≢ q) (block_places start widths i)
block_apart start [] i = λ a b d before within same. absurd (omega (arith, within))
block_apart start (width ∷ widths) zero = range_apart start width
block_apart start (width ∷ widths) (suc i) = block_apart (start + width) widths i

apart_append : (xs ys : List ℕ) → AllPairs (λ p q. p ≢ q) xs → AllPairs (λ p q. p ≢ q) ys
    → ((k d : ℕ) → k < length xs → All (λ q. get_or xs k d ≢ q) ys) → AllPairs (λ p q. p ≢ q) (xs ++ ys)
apart_append xs ys one two cross = λ i j d before within.
    by i j d before (rw (length-append xs ys) at within) (cases_lt i (length xs)) (cases_lt j (length xs))
  where
    front : (k d : ℕ) → k < length xs → get_or (xs ++ ys) k d ≡ get_or xs k d
    front k d l = get_or_append_left xs ys d k l

    behind : (k d : ℕ) → length xs ≤ k → get_or (xs ++ ys) k d ≡ get_or ys (k - length xs) d
    behind k d h =
        let again : length xs + (k - length xs) ≡ k = omega (arith, h) in
        ap (λ m. get_or (xs ++ ys) m d) (sym again) ∙ get_or-append-add xs ys (k - length xs) d

    by : (i j d : ℕ) → i < j → j < length xs + length ys → (i < length xs) ⊎ (length xs ≤ i) → (j < length xs) ⊎ (length xs ≤ j)
        → get_or (xs ++ ys) i d ≢ get_or (xs ++ ys) j d
    by i j d before within (inl p) (inl q) same = one i j d before q (sym (front i d p) ∙ same ∙ front j d q)
    by i j d before within (inl p) (inr q) same =
        cross i d p (j - length xs) d (omega (arith, within, q)) (sym (front i d p) ∙ same ∙ behind j d q)
    by i j d before within (inr p) (inl q) same = absurd (omega (arith, before, p, q))
    by i j d before within (inr p) (inr q) same =
        two (i - length xs) (j - length xs) d (omega (arith, before, p)) (omega (arith, within, q))
        (sym (behind i d p) ∙ same ∙ behind j d q)

apart_picked : (widths picks : List ℕ) → AllPairs (λ i j. i ≢ j) picks → AllPairs (λ p q. p ≢ q) (places_of widths picks)
apart_picked widths [] apart = λ i j d before within same. absurd (omega (arith, within))
apart_picked widths (i ∷ picks) apart =
    apart_append (block_places 0 widths i) (places_of widths picks) (block_apart 0 widths i)
    (apart_picked widths picks (λ k l d before within. apart (suc k) (suc l) d (omega (arith, before)) (omega (arith, within))))
    (differs_from widths picks i (λ k d within. apart 0 (suc k) d (omega arith) (omega (arith, within))))

pub picked_are : (widths picks : List ℕ) → AllPairs (λ i j. i ≢ j) picks → ArePlacesAmong (total widths) (places_of widths picks)
picked_are widths picks apart = record { inside = places_inside widths picks; apart = apart_picked widths picks apart }
