-- Digits and the numbers that they write.
use Rattle.std.proofs.Common.{◌≡◌, ℕ, ℤ, pos, ◌+◌, ◌-◌, ◌*◌, ◌^◌, ◌<◌, ◌≤◌, ◌==◌, Bool, true, false, List, [], ◌∷◌, Option, Some, None}
use Rattle.std.proofs.Common.{length, take, get_or, refl, sym, ap, ◌∙◌, arith, subst}
use Rattle.std.specs.Prelude.{min, unsigned_abs, ◌&&◌, nat_le, option_map, if◌then◌else◌, ◌-ℤ◌, unwrap_or}
use Rattle.std.proofs.lemmas.Bool.{le-leb, leb-true}
use mathlib.Core.Logic.{◌⊎◌, inl, inr}
use Rattle.std.proofs.lemmas.Int.{ints}
use Rattle.std.proofs.lemmas.List.Sums.{fold_more}
use Rattle.isl_words.specs.Number.{are_digits, value_of, number, whole}

pub some_same : {A : Type 0} (a b : A) → Some a ≡ Some b → a ≡ b
some_same a b is = ap (λ o. unwrap_or o a) is

pub saturated_none : 0 ≡ min (value_of []) (2 ^ 128 - 1)
unfolding value_of
saturated_none = refl

value_more : (digits : List ℕ) (i : ℕ) → i < length digits
    → value_of (take (i + 1) digits) ≡ 10 * value_of (take i digits) + (get_or digits i 0 - 48)
unfolding value_of
value_more digits i below = fold_more (λ n d. 10 * n + (d - 48)) 0 digits i 0 below

saturated_sum : (top v n d p q : ℕ) → n ≡ min v top → p ≡ min (n * 10) top → q ≡ min (p + d) top → q ≡ min (10 * v + d) top
saturated_sum top v n d p q so_far times plus = omega arith

-- one digit more
pub saturated_more : (digits : List ℕ) (i n d p q : ℕ) → i < length digits → n ≡ min (value_of (take i digits)) (2 ^ 128 - 1)
    → d ≡ get_or digits i 0 - 48
    → p ≡ min (n * 10) (2 ^ 128 - 1) → q ≡ min (p + d) (2 ^ 128 - 1) → q ≡ min (value_of (take (i + 1) digits)) (2 ^ 128 - 1)
saturated_more digits i n d p q below so_far digit times plus =
    let sum = saturated_sum (2 ^ 128 - 1) (value_of (take i digits)) n d p q so_far times plus in
    sum ∙ ap (λ x. min (10 * value_of (take i digits) + x) (2 ^ 128 - 1)) digit
    ∙ ap (λ x. min x (2 ^ 128 - 1)) (sym (value_more digits i below))

-- ---- a number in its range

module _ (low high : ℕ) (text : List ℕ) where
  pub number_in : (n : ℕ) → are_digits text ≡ true → n ≡ min (value_of text) (2 ^ 128 - 1) → high < 2 ^ 128 - 1 → low ≤ n → n ≤ high
      → Some n ≡ number low high text
  unfolding number
  number_in n digits is small least most =
      let value : value_of text ≡ n = omega arith in
      let above : nat_le low n ≡ true = le-leb low n least in
      let below : nat_le n high ≡ true = le-leb n high most in
      rw (digits, value, above, below) refl

  pub no_number : are_digits text ≡ false → None ≡ number low high text
  unfolding number
  no_number digits = rw digits refl

  pub number_out : (n : ℕ) → n ≡ min (value_of text) (2 ^ 128 - 1) → high < 2 ^ 128 - 1 → (low ≤ n × high < n) ⊎ (n < low)
      → None ≡ number low high text
  unfolding number
  number_out n is small outside = by_tests (are_digits text) (nat_le low (value_of text)) (nat_le (value_of text) high) refl refl
    where
      by_tests : (digits above below : Bool) → nat_le low (value_of text) ≡ above → nat_le (value_of text) high ≡ below
          → None ≡ (if digits && (above && below) then Some (value_of text) else None)
      by_tests false above below least most = refl
      by_tests true false below least most = refl
      by_tests true true false least most = refl
      by_tests true true true least most =
          let low_is : low ≤ value_of text = leb-true low (value_of text) least in
          let high_is : value_of text ≤ high = leb-true (value_of text) high most in
          absurd (elim outside [ inl both ↦ omega arith | inr under ↦ omega arith ])

  pub number_range : (n : ℕ) → number low high text ≡ Some n → (low ≤ n) × (n ≤ high)
  unfolding number
  number_range n is = by_tests (are_digits text) (nat_le low (value_of text)) (nat_le (value_of text) high) refl refl is
    where
      by_tests : (digits above below : Bool) → nat_le low (value_of text) ≡ above → nat_le (value_of text) high ≡ below
          → (if digits && (above && below) then Some (value_of text) else None) ≡ Some n → (low ≤ n) × (n ≤ high)
      by_tests false above below least most some = absurd (cc)
      by_tests true false below least most some = absurd (cc)
      by_tests true true false least most some = absurd (cc)
      by_tests true true true least most some =
          let same = some_same (value_of text) n some in
          let low_is : low ≤ value_of text = leb-true low (value_of text) least in
          let high_is : value_of text ≤ high = leb-true (value_of text) high most in
          (omega arith, omega arith)

pub whole_small : (limit : ℕ) (text : List ℕ) (z : ℤ) → whole limit text ≡ Some z → unsigned_abs z ≤ limit
whole_small limit [] z is = absurd (cc)
whole_small limit (byte ∷ bytes) z is = by_sign (byte == 45) (number 0 limit bytes) (number 0 limit (byte ∷ bytes)) refl refl is
  where
    by_sign : (negative : Bool) (m n : Option ℕ) → number 0 limit bytes ≡ m → number 0 limit (byte ∷ bytes) ≡ n
        → (if negative then option_map (λ k. pos 0 -ℤ pos k) m else option_map (λ k. pos k) n) ≡ Some z → unsigned_abs z ≤ limit
    by_sign true None n first second is = absurd (cc)
    by_sign true (Some k) n first second is =
        let same = some_same (pos 0 -ℤ pos k) z is in
        let range = number_range 0 limit bytes k first in
        subst (λ (y : ℤ). unsigned_abs y ≤ limit) same (omega (arith, ints, range.1))
    by_sign false m None first second is = absurd (cc)
    by_sign false m (Some k) first second is =
        let same = some_same (pos k) z is in
        subst (λ (y : ℤ). unsigned_abs y ≤ limit) same (number_range 0 limit (byte ∷ bytes) k second).1
