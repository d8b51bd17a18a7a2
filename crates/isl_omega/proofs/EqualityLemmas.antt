-- Substitution by an equality, the first step of Pugh's Omega test: where e x + f = 0, the column x leaves every other row.
use Rattle.std.proofs.Common.{◌≡◌, ◌≢◌, ◌↔◌, ◌∙◌, ap, arith, zero, suc, ◌≤◌, ℤ, pos, negsuc, neg_ℤ, ◌+ℤ◌, ◌*ℤ◌, unsigned_abs}
use lib.IntN.{*ℤ_comm}
use Rattle.isl_math.specs.Divide.{Divides, floor_div, IsGcdOf}
use Rattle.isl_math.specs.Order.{abs_of, sign_of}
use Rattle.isl_math.proofs.Ring.{expand, linear}
use Rattle.isl_math.proofs.OrderLaws.{<ℤ-from_*ℤ, ≡-from_*ℤ, sign-*ℤ, abs_positive, positive_not_zero}
use Rattle.isl_math.proofs.DivideLaws.{Divides-abs, Divides-same, Divides-*ℤ, exact_quotient, gcd_positive}
use Rattle.isl_omega.specs.Equality.{AreFactors}
use Rattle.isl_math.proofs.MagnitudeLaws.{up_to-floor_div, up_to-neg}

-- some whole x solves the equality exactly where e divides what stands beside it
pub some_solution : (e f : ℤ) → ((x : ℤ) × (e *ℤ x +ℤ f ≡ pos 0)) ↔ Divides e f
some_solution e f = (
  (λ s. record { quotient = neg_ℤ s.0; is = let h = s.1 in simp expand (omega (arith, linear)) }),
  (λ d. (neg_ℤ d.quotient, (let h = d.is in simp expand (omega (arith, linear))))),
)

-- where the equality z holds, m times a row plus a multiple of z has m times the row's value
pub multiple_of_zero : (m r n z : ℤ) → z ≡ pos 0 → m *ℤ r +ℤ n *ℤ z ≡ m *ℤ r
multiple_of_zero m r n z h = let e = ap (λ w. n *ℤ w) h in omega (arith, linear)

-- with e = d m and a = d n, the column leaves m times (a x + ..) less n times (e x + ..)
pub column_cancels : (d m n e a : ℤ) → e ≡ d *ℤ m → a ≡ d *ℤ n → m *ℤ a +ℤ neg_ℤ n *ℤ e ≡ pos 0
column_cancels d m n e a p q =
    let s = simp expand at (ap (λ w. n *ℤ w) p) in
    let t = simp expand at (ap (λ w. m *ℤ w) q) in
    simp expand (omega (arith, linear))

-- ---- the factors
sign_up_to : (a b : ℤ) → unsigned_abs (sign_of a *ℤ b) ≤ unsigned_abs b
sign_up_to (pos zero) b = omega (arith, linear)
sign_up_to (pos (suc a)) b = omega (arith, linear)
sign_up_to (negsuc a) b = omega (arith, linear)

-- what `factors` computes
pub AreFactors-from_gcd : (p o d m q r : ℤ) → p ≢ pos 0 → IsGcdOf p o d → m ≡ floor_div (abs_of p) d → q ≡ floor_div (sign_of p *ℤ o) d → r ≡ neg_ℤ q → AreFactors p o m r
AreFactors-from_gcd p o d m q r n g e f k = rw k (by p o d m q n g e f)
  where
    by : (p o d m q : ℤ) → p ≢ pos 0 → IsGcdOf p o d → m ≡ floor_div (abs_of p) d → q ≡ floor_div (sign_of p *ℤ o) d → AreFactors p o m (neg_ℤ q)
    by p o d m q n g e f =
        let above = gcd_positive p o d n g in
        let whole : d *ℤ m ≡ abs_of p = ap (λ w. d *ℤ w) e ∙ exact_quotient d (abs_of p) above (Divides-abs d p g.first) in
        let part : d *ℤ q ≡ sign_of p *ℤ o = ap (λ w. d *ℤ w) f ∙ exact_quotient d (sign_of p *ℤ o) above (Divides-same d (o *ℤ sign_of p) (sign_of p *ℤ o) (*ℤ_comm o (sign_of p)) (Divides-*ℤ d o (sign_of p) g.second)) in
        let large = abs_positive p n in
        record {
          positive = <ℤ-from_*ℤ d (pos 0) m (omega (arith, linear)) (omega (arith, linear));
          cancel = ≡-from_*ℤ d (m *ℤ o +ℤ neg_ℤ q *ℤ p) (pos 0) (positive_not_zero d above) (cancels d m q p o (sign_of p) (abs_of p) whole part (sign-*ℤ p));
          m_small = let s = up_to-floor_div (unsigned_abs p) (abs_of p) d above (omega (arith, linear)) in rw e s;
          n_small = let s = up_to-floor_div (unsigned_abs o) (sign_of p *ℤ o) d above (sign_up_to p o) in rw f (up_to-neg (unsigned_abs o) (floor_div (sign_of p *ℤ o) d) s);
        }
      where
        cancels : (d m q p o s a : ℤ) → d *ℤ m ≡ a → d *ℤ q ≡ s *ℤ o → s *ℤ p ≡ a → d *ℤ (m *ℤ o +ℤ neg_ℤ q *ℤ p) ≡ d *ℤ pos 0
        cancels d m q p o s a w t h =
            let w' = simp expand at (ap (λ z. o *ℤ z) w) in
            let t' = simp expand at (ap (λ z. p *ℤ z) t) in
            let h' = simp expand at (ap (λ z. o *ℤ z) h) in
            simp expand (omega (arith, linear))
