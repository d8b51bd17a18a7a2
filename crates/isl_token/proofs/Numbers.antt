-- Digits and the numbers that they write.
use Rattle.std.proofs.Common.{◌≡◌, ℕ, ◌+◌, ◌-◌, ◌*◌, ◌^◌, ◌<◌, ◌≤◌, List, [], length, take, get_or, refl, sym, ap, ◌∙◌, arith, lit≤, lit<}
use Rattle.std.proofs.Common.{to_z}
use Rattle.std.specs.Prelude.{min, pos}
use Rattle.std.specs.Int.{w128}
use Rattle.std.proofs.lemmas.Int.{to_z_pos}
use Rattle.std.proofs.lemmas.List.Sums.{fold_more}
use Rattle.isl_token.specs.Number.{value_of, number_of, too_great}

pub capped_none : 0 ≡ min (value_of []) too_great
unfolding value_of
capped_none = refl

value_more : (digits : List ℕ) (i : ℕ) → i < length digits
    → value_of (take (i + 1) digits) ≡ 10 * value_of (take i digits) + (get_or digits i 0 - 48)
unfolding value_of
value_more digits i below = fold_more (λ n d. 10 * n + (d - 48)) 0 digits i 0 below

-- a sum that stops at one bound or a greater one stops at the first
capped_sum : (low high v n d p q m : ℕ) → low ≤ high → n ≡ min v low → p ≡ min (n * 10) high → q ≡ min (p + d) high → m ≡ min q low
    → m ≡ min (10 * v + d) low
capped_sum low high v n d p q m le so_far times plus least = omega arith

-- one digit more
pub capped_more : (digits : List ℕ) (i n d p q m : ℕ) → i < length digits → n ≡ min (value_of (take i digits)) too_great
    → d ≡ get_or digits i 0 - 48
    → p ≡ min (n * 10) (2 ^ 128 - 1) → q ≡ min (p + d) (2 ^ 128 - 1) → m ≡ min q too_great
    → m ≡ min (value_of (take (i + 1) digits)) too_great
capped_more digits i n d p q m below so_far digit times plus least =
    let sum = capped_sum too_great (2 ^ 128 - 1) (value_of (take i digits)) n d p q m (lit≤ tt) so_far times plus least in
    sum ∙ ap (λ x. min (10 * value_of (take i digits) + x) too_great) digit ∙ ap (λ x. min x too_great) (sym (value_more digits i below))

below_bound : (top n r : ℕ) → 0 < top → r ≡ min n (top - 1) → r < top
below_bound top n r some least = omega arith

min_twice : (top v n r : ℕ) → n ≡ min v top → r ≡ min n (top - 1) → r ≡ min v (top - 1)
min_twice top v n r first second = omega arith

-- the number of a tree
pub number_is : (digits : List ℕ) (n r : ℕ) → n ≡ min (value_of digits) too_great → r ≡ min n (too_great - 1)
    → to_z w128 r ≡ number_of digits
unfolding number_of
number_is digits n r capped least = to_z_pos w128 r (below_bound too_great n r (lit< tt) least)
    ∙ ap (λ k. pos k) (min_twice too_great (value_of digits) n r capped least)
