-- What a row of added amounts says of a point.
use Rattle.std.proofs.Common.{◌≡◌, ◌∙◌, refl, sym, ap, ℕ, zero, suc, ◌+◌, ◌<◌, ℤ, pos, ◌+ℤ◌, ◌-ℤ◌, ◌*ℤ◌, List, [], ◌∷◌, ◌++◌, length}
use Rattle.std.proofs.Common.{get_or, take, replicate, arith, ◌≤◌, ◌⊎◌}
use mathlib.Core.Logic.{inl, inr}
use Rattle.isl_math.proofs.Ring.{expand, linear}
use Rattle.isl_math.specs.Dot.{dot}
use Rattle.isl_math.proofs.DotLaws.{dot-set_left, dot-zeros}
use Rattle.std.proofs.lemmas.List.{length-set, set_past, length-append, length-replicate}
use Rattle.isl_plain.specs.Linear.{Amount, with_amount, with_amounts, row_of}

-- what the amounts come to at a point
abbrev pub total : List ℤ → List Amount → ℤ
total xs [] = pos 0
total xs (a ∷ amounts) = a.1 *ℤ get_or xs a.0 (pos 0) +ℤ total xs amounts

pub length-with_amounts : (row : List ℤ) (amounts : List Amount) → length (with_amounts row amounts) ≡ length row
length-with_amounts row [] = refl
length-with_amounts row (a ∷ amounts) = length-with_amounts (with_amount row a) amounts ∙ length-set row a.0 _

below_or : (a b : ℕ) → (a < b) ⊎ (b ≤ a)
below_or a b = grind arith

get_or_past : (xs : List ℤ) (i : ℕ) → length xs ≤ i → get_or xs i (pos 0) ≡ pos 0
get_or_past [] zero past = refl
get_or_past [] (suc i) past = refl
get_or_past (x ∷ xs) zero past = absurd (omega arith)
get_or_past (x ∷ xs) (suc i) past = get_or_past xs i (omega arith)

-- one amount more; one beyond the row changes nothing
pub dot-with_amount : (row xs : List ℤ) (a : Amount) → length row ≡ length xs
    → dot (with_amount row a) xs ≡ dot row xs +ℤ a.1 *ℤ get_or xs a.0 (pos 0)
dot-with_amount row xs a same = elim (below_or a.0 (length row)) [
  | inl is ↦ let e =
      dot-set_left row xs a.0 (get_or row a.0 (pos 0) +ℤ a.1) is in e
      ∙ inside (dot row xs) (get_or row a.0 (pos 0)) a.1 (get_or xs a.0 (pos 0))
  | inr is ↦
      let kept : with_amount row a ≡ row = set_past row a.0 (get_or row a.0 (pos 0) +ℤ a.1) is in
      let none : get_or xs a.0 (pos 0) ≡ pos 0 = get_or_past xs a.0 (omega arith) in
      ap (λ (l : List ℤ). dot l xs) kept ∙ outside (dot row xs) a.1 (get_or xs a.0 (pos 0)) none
]
  where
    inside : (d r z x : ℤ) → d +ℤ (r +ℤ z -ℤ r) *ℤ x ≡ d +ℤ z *ℤ x
    inside d r z x = simp expand (omega (arith, linear))

    outside : (d z x : ℤ) → x ≡ pos 0 → d ≡ d +ℤ z *ℤ x
    outside d z x e = rw e (simp expand (omega (arith, linear)))

pub dot-with_amounts : (row xs : List ℤ) (amounts : List Amount) → length row ≡ length xs
    → dot (with_amounts row amounts) xs ≡ dot row xs +ℤ total xs amounts
dot-with_amounts row xs [] same = omega (arith, linear)
dot-with_amounts row xs (a ∷ amounts) same =
    let first = dot-with_amount row xs a same in
    let more = dot-with_amounts (with_amount row a) xs amounts (length-set row a.0 (get_or row a.0 (pos 0) +ℤ a.1) ∙ same) in
    omega (arith, linear)

-- a list of one number more, at a point with a 1 behind it
pub dot-last : (row xs : List ℤ) → length row ≡ length xs + 1
    → dot row (xs ++ pos 1 ∷ []) ≡ dot (take (length xs) row) xs +ℤ get_or row (length xs) (pos 0)
dot-last [] xs same = absurd (omega arith)
dot-last (c ∷ []) [] same = omega (arith, linear)
dot-last (c ∷ (d ∷ row)) [] same = absurd (omega arith)
dot-last (c ∷ row) (x ∷ xs) same = let more = dot-last row xs (omega arith) in omega (arith, linear)

-- what the row of amounts says of a point
pub row_at : (xs : List ℤ) (amounts : List Amount)
    → dot (take (length xs) (row_of (length xs) amounts)) xs +ℤ get_or (row_of (length xs) amounts) (length xs) (pos 0) ≡ total
    (xs ++ pos 1 ∷ []) amounts
row_at xs amounts =
    let n = length xs in
    let zeros = replicate (n + 1) (pos 0) in
    let point = xs ++ pos 1 ∷ [] in
    let long : length zeros ≡ length point = length-replicate (n + 1) (pos 0) ∙ sym (length-append xs (pos 1 ∷ [])) in
    let width : length (row_of n amounts) ≡ n + 1 = length-with_amounts zeros amounts ∙ length-replicate (n + 1) (pos 0) in
    let split = dot-last (row_of n amounts) xs width in
    let sum = dot-with_amounts zeros point amounts long in
    let none = dot-zeros (n + 1) point in
    omega (arith, linear)
