-- A comparison of two columns whose columns stand at other places compares those at these places.
use Rattle.std.proofs.Common.{◌≡◌, ◌≢◌, ◌⊎◌, inl, inr, refl, sym, ap, ◌∙◌, arith, ℕ, zero, suc, ◌<◌, ◌≤◌, ℤ, pos, List, [], ◌∷◌}
use Rattle.std.proofs.Common.{length, get_or, set, replicate, length-set, get_or-set_other}
use Rattle.std.specs.List.{All, AllPairs}
use Rattle.std.proofs.lemmas.List.{get_or_default, get_or-set_same, get_or-replicate, get_or_past, length-replicate}
use Rattle.std.proofs.lemmas.List.Elements.{All-nil, All-cons, All-head, All-tail}
use Rattle.isl_math.proofs.Ring.{linear}
use Rattle.isl_piece.specs.Meet.{put_at, placed}
use Rattle.isl_piece.specs.Placed.{ArePlacesAmong}
use Rattle.isl_piece.proofs.PlacedLaws.{length-placed}
use Rattle.isl_ledger.specs.Difference.{one_at, IsComparison}
use Rattle.isl_ledger.proofs.ComparisonLaws.{one_here, one_apart}
use Rattle.isl_ledger.proofs.NumberLists.{pairs_head, pairs_tail}

-- ---- the coefficient at a column
-- where no place is the column
put_elsewhere : (all : List ℤ) (places : List ℕ) (cs : List ℤ) (k : ℕ) → All (λ p. k ≢ p) places
    → get_or (put_at all places cs) k (pos 0) ≡ get_or all k (pos 0)
put_elsewhere all [] cs k h = refl
put_elsewhere all (place ∷ places) [] k h = refl
put_elsewhere all (place ∷ places) (c ∷ cs) k h =
    put_elsewhere (set all place c) places cs k (All-tail (λ p. k ≢ p) place places h)
    ∙ get_or-set_other all place k c (pos 0) (All-head (λ p. k ≢ p) place places h)

-- at the place of one of the coefficients
put_here : (all : List ℤ) (places : List ℕ) (cs : List ℤ) (t : ℕ) → length cs ≡ length places → AllPairs (λ p q. p ≢ q) places
    → All (λ p. p < length all) places → t < length places
    → get_or (put_at all places cs) (get_or places t 0) (pos 0) ≡ get_or cs t (pos 0)
put_here all [] cs t long apart low l = absurd (omega arith)
put_here all (place ∷ places) [] t long apart low l = absurd (omega arith)
put_here all (place ∷ places) (c ∷ cs) zero long apart low l =
    put_elsewhere (set all place c) places cs place (pairs_head (λ p q. p ≢ q) place places apart)
    ∙ get_or-set_same all place c (pos 0) (All-head (λ p. p < length all) place places low)
put_here all (place ∷ places) (c ∷ cs) (suc t) long apart low l =
    put_here (set all place c) places cs t (omega arith) (pairs_tail (λ p q. p ≢ q) place places apart)
    (rw (length-set all place c) (All-tail (λ p. p < length all) place places low)) (omega arith)

-- the column is one of the places, or none
place_cases : (k : ℕ) (places : List ℕ) → ((t : ℕ) × (t < length places) × (k ≡ get_or places t 0)) ⊎ All (λ p. k ≢ p) places
place_cases k [] = inr (All-nil (λ p. k ≢ p))
place_cases k (place ∷ places) = elim (same_or_apart k place) [
  | inl e ↦ inl (0, omega arith, e)
  | inr n ↦ elim (place_cases k places) [
    | inl found ↦ inl (suc found.0, (let l = found.1 in omega arith), found.2)
    | inr none ↦ inr (All-cons (λ p. k ≢ p) place places n none)
  ]
]
  where
    same_or_apart : (k p : ℕ) → (k ≡ p) ⊎ (k ≢ p)
    same_or_apart k p = grind arith

-- ---- comparisons
module _ (columns : ℕ) (places : List ℕ) (cs : List ℤ) (long : length cs ≡ length places) (among : ArePlacesAmong columns places) where
  -- where a column stands; one behind the columns stands behind them again
  place_of : ℕ → ℕ
  place_of i = get_or places i columns

  before_or_behind : (i : ℕ) → (i < length places) ⊎ (length places ≤ i)
  before_or_behind i = grind arith

  order_cases : (i t : ℕ) → (i ≡ t) ⊎ ((i < t) ⊎ (t < i))
  order_cases i t = grind arith

  inside : (t d : ℕ) → t < length places → get_or places t d < columns
  inside t d l = among.inside t d l

  -- other columns stand at other places
  other_place : (i t : ℕ) → t < length places → t ≢ i → get_or places t 0 ≢ place_of i
  unfolding place_of
  other_place i t l n e = elim (before_or_behind i) [
    | inl within ↦ elim (order_cases i t) [
      | inl same ↦ n (sym same)
      | inr apart ↦
          let here = get_or_default places i columns 0 within in
          elim apart [
            | inl before ↦ among.apart i t 0 before l (sym here ∙ sym e)
            | inr after ↦ among.apart t i 0 after within (e ∙ here)
          ]
    ]
    | inr behind ↦ let past = get_or_past places i columns behind in let low = inside t 0 l in omega arith
  ]

  one_placed : (i t : ℕ) → t < length places → one_at (place_of i) (get_or places t 0) ≡ one_at i t
  unfolding place_of
  one_placed i t l = elim (order_cases i t) [
    | inl same ↦
        let here = get_or_default places t 0 columns l ∙ ap (λ w. get_or places w columns) (sym same) in
        one_here (place_of i) (get_or places t 0) here ∙ sym (one_here i t (sym same))
    | inr apart ↦
        let differ : t ≢ i = λ e. apart_not i t apart (sym e) in
        one_apart (place_of i) (get_or places t 0) (other_place i t l differ) ∙ sym (one_apart i t differ)
  ]
    where
      apart_not : (i t : ℕ) → (i < t) ⊎ (t < i) → i ≢ t
      apart_not i t (inl l) e = omega arith
      apart_not i t (inr l) e = omega arith

  one_elsewhere : (i k : ℕ) → k < columns → All (λ p. k ≢ p) places → one_at (place_of i) k ≡ pos 0
  unfolding place_of
  one_elsewhere i k low none = one_apart (place_of i) k (λ e. elim (before_or_behind i) [
    | inl within ↦ none i columns within e
    | inr behind ↦ (let past = get_or_past places i columns behind in omega arith)
  ])

  pub comparison_placed : (i j : ℕ) → IsComparison cs i j → (k : ℕ) × (l : ℕ) × IsComparison (placed columns places cs) k l
  comparison_placed i j is = (
    place_of i,
    place_of j,
    record {
      at = λ k within. let low : k < columns = omega (arith, within, length-placed columns places cs) in elim (place_cases k places) [
        | inl found ↦
            let same = ap (λ w. get_or (placed columns places cs) w (pos 0)) found.2 in
            let own = put_here (replicate columns (pos 0)) places cs found.0 long among.apart low_places found.1 in
            let e = is.at found.0 (let l = found.1 in omega arith) in
            let u = ap (one_at (place_of i)) found.2 ∙ one_placed i found.0 found.1 in
            let v = ap (one_at (place_of j)) found.2 ∙ one_placed j found.0 found.1 in
            omega (arith, linear)
        | inr none ↦
            let other = put_elsewhere (replicate columns (pos 0)) places cs k none in
            let zeros = get_or-replicate columns k (pos 0) (pos 0) low in
            let u = one_elsewhere i k low none in
            let v = one_elsewhere j k low none in
            omega (arith, linear)
      ];
    },
  )
    where
      low_places : All (λ p. p < length (replicate columns (pos 0))) places
      low_places = rw (length-replicate columns (pos 0)) among.inside
