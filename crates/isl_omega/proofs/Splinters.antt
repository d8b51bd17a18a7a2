-- How many splinters a lower bound has, and that their number does not fall where its factor, the greatest upper factor
-- or the modulus of a substitution rises.
use Rattle.std.proofs.Common.{◌≡◌, ap, arith, ℤ, pos, neg_ℤ, ◌+ℤ◌, ◌-ℤ◌, ◌*ℤ◌, ◌≤ℤ◌, ◌<ℤ◌}
use Rattle.isl_math.specs.Divide.{floor_div, floor_mod}
use Rattle.isl_omega.specs.Shadow.{splinters}
use Rattle.isl_math.proofs.Ring.{expand, linear}
use Rattle.isl_math.proofs.OrderLaws.{*ℤ-≤ℤ, <ℤ-from_*ℤ}
use Rattle.isl_math.proofs.DivideLaws.{at_most_floor, floor_split, floor_mod_bounds, floor_unique}

-- as Pugh counts them: (a m - a - m) / m rounded down, and one
pub splinters_counted : (a m : ℤ) → pos 0 <ℤ m → floor_div (a *ℤ m -ℤ a -ℤ m) m +ℤ pos 1 ≡ splinters a m
splinters_counted a m p =
    let s = floor_split (neg_ℤ a) m p in
    let b = floor_mod_bounds (neg_ℤ a) m p in
    let q = floor_div (neg_ℤ a) m in
    let same = floor_unique (a *ℤ m -ℤ a -ℤ m) m (a -ℤ pos 1 +ℤ q) (floor_mod (neg_ℤ a) m) (simp expand (omega (arith, linear))) b.0 b.1 in
    let e = same.0 in
    omega (arith, linear)

-- a / m, rounded up, is 1 or more and at most a
pub floor_negative : (a m : ℤ) → pos 0 <ℤ a → pos 0 <ℤ m → floor_div (neg_ℤ a) m <ℤ pos 0
floor_negative a m p q =
    let s = floor_split (neg_ℤ a) m q in
    let b = floor_mod_bounds (neg_ℤ a) m q in
    <ℤ-from_*ℤ m (floor_div (neg_ℤ a) m) (pos 0) (omega (arith, linear)) (omega (arith, linear))

pub splinters_not_negative : (a m : ℤ) → pos 0 <ℤ a → pos 0 <ℤ m → pos 0 ≤ℤ splinters a m
splinters_not_negative a m p q =
    let t = *ℤ-≤ℤ a (pos 1) m (omega (arith, linear)) (omega (arith, linear)) in
    let h = (at_most_floor (neg_ℤ a) m (neg_ℤ a) q).1 (simp expand (omega (arith, linear))) in
    omega (arith, linear)

-- it rises with both factors
pub splinters_rise : (a b m n : ℤ) → pos 0 <ℤ a → a ≤ℤ b → pos 0 <ℤ m → m ≤ℤ n → splinters a m ≤ℤ splinters b n
splinters_rise a b m n p h q k =
    let low = floor_negative a m p q in
    let f = floor_div (neg_ℤ a) m in
    let s = floor_split (neg_ℤ a) m q in
    let r = floor_mod_bounds (neg_ℤ a) m q in
    let more = simp expand at (*ℤ-≤ℤ (neg_ℤ f) m n (omega (arith, linear)) k) in
    let less = simp expand at (*ℤ-≤ℤ (b -ℤ a) (pos 1) n (omega (arith, linear)) (omega (arith, linear))) in
    let s' = simp expand at s in
    let top = (at_most_floor (neg_ℤ b) n (f +ℤ a -ℤ b) (omega (arith, linear))).1 (simp expand (omega (arith, linear))) in
    omega (arith, linear)

-- both factors times k: the part that is rounded stays
pub splinters_scaled : (a m k : ℤ) → pos 0 <ℤ m → pos 0 <ℤ k → splinters (a *ℤ k) (m *ℤ k) ≡ a *ℤ k +ℤ floor_div (neg_ℤ a) m
splinters_scaled a m k p q =
    let s = floor_split (neg_ℤ a) m p in
    let b = floor_mod_bounds (neg_ℤ a) m p in
    let r = floor_mod (neg_ℤ a) m in
    let up = simp expand at (ap (λ w. k *ℤ w) s) in
    let low = simp expand at (*ℤ-≤ℤ k (pos 0) r (omega (arith, linear)) b.0) in
    let high = simp expand at (*ℤ-≤ℤ k (r +ℤ pos 1) m (omega (arith, linear)) (omega (arith, linear))) in
    let same = floor_unique (neg_ℤ (a *ℤ k)) (m *ℤ k) (floor_div (neg_ℤ a) m) (k *ℤ r) (simp expand (omega (arith, linear))) (simp expand (omega (arith, linear))) (simp expand (omega (arith, linear))) in
    let e = same.0 in
    omega (arith, linear)

-- with so many neighbours, each one more for each unit of the factor, they are no more than those of both factors times a greater number
pub neighbours_scaled : (a m neighbours k : ℤ) → pos 0 <ℤ a → pos 0 <ℤ m → pos 0 <ℤ k → neighbours <ℤ k
    → (splinters a m +ℤ neighbours *ℤ a) ≤ℤ splinters (a *ℤ k) (m *ℤ k)
neighbours_scaled a m neighbours k p q positive less = by a (floor_div (neg_ℤ a) m) neighbours k (splinters (a *ℤ k) (m *ℤ k)) p less (splinters_scaled a m k q positive)
  where
    by : (a f n k s : ℤ) → pos 0 <ℤ a → n <ℤ k → s ≡ a *ℤ k +ℤ f → (a +ℤ f +ℤ n *ℤ a) ≤ℤ s
    by a f n k s p h e =
        let more = simp expand at (*ℤ-≤ℤ a (n +ℤ pos 1) k (omega (arith, linear)) (omega (arith, linear))) in
        let e' = simp expand at e in
        simp expand (omega (arith, linear))
