-- The periods of rows that divisors must not divide, and their products.
use Rattle.std.proofs.Common.{◌≡◌, refl, ap, arith, Bool, true, false, cond, ℕ, ℤ, pos, ◌*ℤ◌, ◌≤ℤ◌, ◌<ℤ◌, List, [], ◌∷◌, map}
use Rattle.std.specs.List.{All, filter}
use Rattle.std.proofs.lemmas.List.Elements.{All-head, All-tail}
use Rattle.isl_math.specs.Divide.{Divides, floor_div}
use Rattle.isl_math.specs.Gcd.{gcd_of}
use Rattle.isl_math.proofs.Ring.{expand, linear}
use Rattle.isl_math.proofs.OrderLaws.{*ℤ-≤ℤ, ≤ℤ-*ℤ, <ℤ-from_*ℤ, ≡-from_*ℤ, positive-*ℤ, positive_factors, product_le}
use Rattle.isl_math.proofs.DivideLaws.{Divides-*ℤ, quotient-from_Divides}
use Rattle.isl_math.proofs.GcdLaws.{IsGcdOf-gcd_of}
use Rattle.isl_piece.specs.declared.row.Row.{Row}
use Rattle.isl_omega.specs.Congruence.{product_of_divisors, period, product_of_periods}

-- ---- one period
-- above 0, and at most k
pub record IsShorterPeriod (p k : ℤ) : Type 0 where
  pub positive : pos 0 <ℤ p
  pub small : p ≤ℤ k

pub period_short : (c k : ℤ) → pos 0 <ℤ k → IsShorterPeriod (floor_div k (gcd_of c k)) k
period_short c k p =
    let h = IsGcdOf-gcd_of c k in
    let f = positive_factors (gcd_of c k) h.second.quotient k p h.second.is h.not_negative in
    let e = quotient-from_Divides (gcd_of c k) k f.0 h.second in
    rw e (by (gcd_of c k) h.second.quotient k f.0 f.1 h.second.is)
  where
    by : (g q k : ℤ) → pos 0 <ℤ g → pos 0 <ℤ q → k ≡ g *ℤ q → IsShorterPeriod q k
    by g q k p r e = record { positive = r; small = (let m = simp expand at (≤ℤ-*ℤ q (pos 1) g (omega (arith, linear)) (omega (arith, linear))) in let e' = simp expand at e in omega (arith, linear)) }

-- the modulus divides the coefficient times the period
pub period_multiple : (c k : ℤ) → pos 0 <ℤ k → Divides k (c *ℤ floor_div k (gcd_of c k))
period_multiple c k p =
    let h = IsGcdOf-gcd_of c k in
    let f = positive_factors (gcd_of c k) h.second.quotient k p h.second.is h.not_negative in
    let e = quotient-from_Divides (gcd_of c k) k f.0 h.second in
    rw e (record { quotient = h.first.quotient; is = by c (gcd_of c k) h.first.quotient h.second.quotient k h.first.is h.second.is })
  where
    by : (c g m q k : ℤ) → c ≡ g *ℤ m → k ≡ g *ℤ q → c *ℤ q ≡ k *ℤ m
    by c g m q k e f =
        let e' = simp expand at (ap (λ w. w *ℤ q) e) in
        let f' = simp expand at (ap (λ w. w *ℤ m) f) in
        simp expand (omega (arith, linear))

-- with both the coefficient and the modulus times multiples of s, the period is no longer
pub shorter_period : (c k s j : ℤ) → pos 0 <ℤ k → pos 0 <ℤ s → Divides s j → IsShorterPeriod (floor_div (s *ℤ k) (gcd_of (j *ℤ c) (s *ℤ k))) k
shorter_period c k s j p q d =
    let g = gcd_of (j *ℤ c) (s *ℤ k) in
    let h = IsGcdOf-gcd_of (j *ℤ c) (s *ℤ k) in
    let f = positive_factors g h.second.quotient (s *ℤ k) (positive-*ℤ s k q p) h.second.is h.not_negative in
    let e = quotient-from_Divides g (s *ℤ k) f.0 h.second in
    let w = h.greatest s (Divides-*ℤ s j c d) (record { quotient = k; is = refl }) in
    rw e (by g h.second.quotient s k w.quotient f.0 f.1 q h.second.is w.is)
  where
    by : (g q s k w : ℤ) → pos 0 <ℤ g → pos 0 <ℤ q → pos 0 <ℤ s → s *ℤ k ≡ g *ℤ q → g ≡ s *ℤ w → IsShorterPeriod q k
    by g q s k w a b c e f =
        let above : pos 0 <ℤ w = <ℤ-from_*ℤ s (pos 0) w (omega (arith, linear)) (omega (arith, linear)) in
        let f' = simp expand at (ap (λ z. z *ℤ q) f) in
        let same : k ≡ w *ℤ q = ≡-from_*ℤ s k (w *ℤ q) (λ z. let z' = z in omega (arith, linear)) (let e' = simp expand at e in simp expand (omega (arith, linear))) in
        let m = simp expand at (≤ℤ-*ℤ q (pos 1) w (omega (arith, linear)) (omega (arith, linear))) in
        let same' = simp expand at same in
        record { positive = b; small = omega (arith, linear) }

pub period_at : (c d k j n : ℤ) → d ≡ c → j ≡ k → IsShorterPeriod (floor_div k (gcd_of c k)) n → IsShorterPeriod (floor_div j (gcd_of d j)) n
period_at c d k j n e f h = rw (e, f) h

-- ---- products
pub periods_positive : (col : ℕ) (rows : List Row) → All (λ r. pos 0 <ℤ period col r) rows → pos 0 <ℤ product_of_periods col rows
periods_positive col [] h = omega (arith, linear)
periods_positive col (r ∷ rows) h = positive-*ℤ (period col r) (product_of_periods col rows) (All-head (λ r. pos 0 <ℤ period col r) r rows h) (periods_positive col rows (All-tail (λ r. pos 0 <ℤ period col r) r rows h))

-- fewer rows have no greater product
pub periods_filtered : (col : ℕ) (p : Row → Bool) (rows : List Row) → All (λ r. pos 0 <ℤ period col r) rows → product_of_periods col (filter p rows) ≤ℤ product_of_periods col rows
periods_filtered col p [] h = omega (arith, linear)
periods_filtered col p (r ∷ rows) h = by (p r) (period col r) (product_of_periods col rows) (All-head (λ r. pos 0 <ℤ period col r) r rows h) (periods_positive col rows (All-tail (λ r. pos 0 <ℤ period col r) r rows h)) refl (periods_filtered col p rows (All-tail (λ r. pos 0 <ℤ period col r) r rows h))
  where
    by : (b : Bool) (m n : ℤ) → pos 0 <ℤ m → pos 0 <ℤ n → m ≡ period col r → product_of_periods col (filter p rows) ≤ℤ n → product_of_periods col (cond b (r ∷ filter p rows) (filter p rows)) ≤ℤ (m *ℤ n)
    by true m n a c e k = rw (← e) (*ℤ-≤ℤ m (product_of_periods col (filter p rows)) n (omega (arith, linear)) k)
    by false m n a c e k = let t = simp expand at (≤ℤ-*ℤ n (pos 1) m (omega (arith, linear)) (omega (arith, linear))) in omega (arith, linear)

pub periods_mapped : (col : ℕ) (f : Row → Row) (rows : List Row) → All (λ r. IsShorterPeriod (period col (f r)) r.k) rows → (pos 0 <ℤ product_of_periods col (map f rows)) × (product_of_periods col (map f rows) ≤ℤ product_of_divisors rows)
periods_mapped col f [] h = (omega (arith, linear), omega (arith, linear))
periods_mapped col f (r ∷ rows) h =
    let first = All-head (λ r. IsShorterPeriod (period col (f r)) r.k) r rows h in
    let rest = periods_mapped col f rows (All-tail (λ r. IsShorterPeriod (period col (f r)) r.k) r rows h) in
    let a = first.positive in
    let b = first.small in
    let c = rest.0 in (
      positive-*ℤ (period col (f r)) (product_of_periods col (map f rows)) a c,
      product_le (period col (f r)) r.k (product_of_periods col (map f rows)) (product_of_divisors rows) (omega (arith, linear)) (omega (arith, linear)) b rest.1,
    )
