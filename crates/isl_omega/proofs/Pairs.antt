-- One row for a pair of bounds: the pair divided by the greatest common divisor of its factors.
use Rattle.std.proofs.Common.{◌≡◌, ◌↔◌, arith, ℤ, pos, neg_ℤ, ◌+ℤ◌, ◌-ℤ◌, ◌*ℤ◌, ◌≤ℤ◌, ◌<ℤ◌}
use Rattle.isl_math.specs.Divide.{floor_div}
use Rattle.isl_math.proofs.Ring.{expand, linear}
use Rattle.isl_math.proofs.OrderLaws.{*ℤ-≤ℤ, ≤ℤ-from_*ℤ}
use Rattle.isl_math.proofs.DivideLaws.{at_most_floor}
use Rattle.isl_omega.specs.Shadow.{ceiling, Bound, together, slack, IsReal, IsDark}

-- the pair is real where w, what is divided so, is 0 or more
pub real_divided : (l u : Bound) (d w : ℤ) → pos 0 <ℤ d → together l u ≡ d *ℤ w → IsReal l u ↔ (pos 0 ≤ℤ w)
real_divided l u d w p e = (
  (λ h. ≤ℤ-from_*ℤ d (pos 0) w p (omega (arith, linear))),
  (λ h. let m = *ℤ-≤ℤ d (pos 0) w (omega (arith, linear)) h in omega (arith, linear)),
)

-- and dark where w is at least the slack divided so, rounded up
pub dark_divided : (l u : Bound) (d w : ℤ) → pos 0 <ℤ d → together l u ≡ d *ℤ w → IsDark l u ↔ (ceiling (slack l u) d ≤ℤ w)
dark_divided l u d w p e = by (slack l u) (together l u) d w p e
  where
    by : (s t d w : ℤ) → pos 0 <ℤ d → t ≡ d *ℤ w → (s ≤ℤ t) ↔ (ceiling s d ≤ℤ w)
    by s t d w p e = (
      (λ h. let m = (at_most_floor (neg_ℤ s) d (neg_ℤ w) p).1 (let e' = simp expand at e in simp expand (omega (arith, linear))) in omega (arith, linear)),
      (λ h. let m = simp expand at ((at_most_floor (neg_ℤ s) d (neg_ℤ w) p).0 (omega (arith, linear))) in let e' = simp expand at e in simp expand (omega (arith, linear))),
    )

-- a tight pair: where g divides all but the constants c and c - s of both, and they are the same divided by g and
-- rounded down, the real row is the dark one
pub tight_pair : (g z c s : ℤ) → pos 0 <ℤ g → floor_div c g ≡ floor_div (c -ℤ s) g → pos 0 ≤ℤ (g *ℤ z +ℤ c) → pos 0 ≤ℤ (g *ℤ z +ℤ (c -ℤ s))
tight_pair g z c s p e h =
    let m = (at_most_floor c g (neg_ℤ z) p).1 (let h' = simp expand at h in simp expand (omega (arith, linear))) in
    let n = simp expand at ((at_most_floor (c -ℤ s) g (neg_ℤ z) p).0 (omega (arith, linear))) in
    simp expand (omega (arith, linear))
