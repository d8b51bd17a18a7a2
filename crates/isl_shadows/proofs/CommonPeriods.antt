-- Common periods of several rows that divisors must not divide.
use Rattle.std.proofs.Common.{◌≡◌, ◌∙◌, ap, arith, ℕ, ℤ, pos, ◌*ℤ◌, ◌≤ℤ◌, ◌<ℤ◌, List, [], ◌∷◌, ◌++◌, get_or}
use Rattle.std.proofs.lemmas.List.Elements.{All-nil, All-push}
use Rattle.isl_math.specs.Divide.{Divides, IsGcdOf, floor_div}
use Rattle.isl_math.proofs.Ring.{expand, linear}
use Rattle.isl_math.proofs.OrderLaws.{*ℤ-≤ℤ, ≤ℤ-*ℤ, positive-*ℤ, positive_factors}
use Rattle.isl_math.proofs.DivideLaws.{Divides-*ℤ, Divides-same, Divides_self, quotient-from_Divides}
use Rattle.isl_piece.specs.declared.row.Row.{Row}
use Rattle.isl_piece.specs.Row.{coef_at}
use Rattle.isl_omega.specs.Congruence.{period, product_of_periods}
use Rattle.isl_shadows.specs.Residue.{IsCommonMultiple, IsPeriod}
use Rattle.isl_omega.proofs.PeriodLemmas.{period_short, period_multiple}

-- ---- a common period
pub common_multiple_is : (a b g rest m : ℤ) → pos 0 <ℤ a → pos 0 <ℤ b → IsGcdOf a b g → rest ≡ floor_div b g → m ≡ a *ℤ rest → IsCommonMultiple a b m
common_multiple_is a b g rest m p q h e f =
    let s = positive_factors g h.second.quotient b q h.second.is h.not_negative in
    let exact = quotient-from_Divides g b s.0 h.second in
    by g h.first.quotient h.second.quotient h.first.is h.second.is s.0 s.1 (f ∙ ap (λ z. a *ℤ z) (e ∙ exact))
  where
    by : (g n w : ℤ) → a ≡ g *ℤ n → b ≡ g *ℤ w → pos 0 <ℤ g → pos 0 <ℤ w → m ≡ a *ℤ w → IsCommonMultiple a b m
    by g n w ea eb pg pw em = record {
      positive = rw em (positive-*ℤ a w p pw);
      small = (let t = simp expand at (≤ℤ-*ℤ w (pos 1) g (omega (arith, linear)) (omega (arith, linear))) in
          let eb' = simp expand at eb in
          let le : w ≤ℤ b = omega (arith, linear) in
          let u = *ℤ-≤ℤ a w b (omega (arith, linear)) le in omega (arith, linear));
      first = record { quotient = w; is = em };
      second = record { quotient = n; is = (let ea' = simp expand at (ap (λ z. z *ℤ w) ea) in let eb' = simp expand at (ap (λ z. z *ℤ n) eb) in let em' = simp expand at em in simp expand (omega (arith, linear))) };
    }

pub period_none : (col : ℕ) → IsPeriod col [] (pos 1)
period_none col = record { positive = omega (arith, linear); small = omega (arith, linear); multiples = All-nil (λ r. Divides r.k (coef_at r col *ℤ pos 1)) }

pub product-push : (col : ℕ) (rows : List Row) (r : Row) → product_of_periods col (rows ++ r ∷ []) ≡ product_of_periods col rows *ℤ period col r
product-push col [] r = by (period col r)
  where
    by : (p : ℤ) → p *ℤ pos 1 ≡ pos 1 *ℤ p
    by p = omega (arith, linear)
product-push col (s ∷ rows) r = by (period col s) (product_of_periods col (rows ++ r ∷ [])) (product_of_periods col rows) (period col r) (product-push col rows r)
  where
    by : (s t u p : ℤ) → t ≡ u *ℤ p → s *ℤ t ≡ (s *ℤ u) *ℤ p
    by s t u p e = let e' = simp expand at (ap (λ z. s *ℤ z) e) in simp expand (omega (arith, linear))

divides_scaled : (k c p m : ℤ) → Divides k (c *ℤ p) → Divides p m → Divides k (c *ℤ m)
divides_scaled k c p m d e = Divides-same k (c *ℤ p *ℤ e.quotient) (c *ℤ m) (by c p m e.quotient e.is) (Divides-*ℤ k (c *ℤ p) e.quotient d)
  where
    by : (c p m q : ℤ) → m ≡ p *ℤ q → c *ℤ p *ℤ q ≡ c *ℤ m
    by c p m q f = let f' = simp expand at (ap (λ z. c *ℤ z) f) in simp expand (omega (arith, linear))

pub period_more : (col : ℕ) (rows : List Row) (r : Row) (p m : ℤ) → pos 0 <ℤ r.k → IsPeriod col rows p → IsCommonMultiple p (period col r) m → IsPeriod col (rows ++ r ∷ []) m
period_more col rows r p m k h c = record {
  positive = c.positive;
  small =
      let e = product-push col rows r in
      let s = period_short (coef_at r col) r.k k in
      let n = s.positive in
      let t = ≤ℤ-*ℤ (period col r) p (product_of_periods col rows) (omega (arith, linear)) h.small in
      let u = c.small in
      omega (arith, linear);
  multiples = All-push (λ r. Divides r.k (coef_at r col *ℤ m)) rows r
      (λ i d j. let q = get_or rows i d in divides_scaled q.k (coef_at q col) p m (h.multiples i d j) c.first)
      (divides_scaled r.k (coef_at r col) (period col r) m (period_multiple (coef_at r col) r.k k) c.second);
}

pub period_one : (col : ℕ) (r : Row) → pos 0 <ℤ r.k → IsPeriod col (r ∷ []) (period col r)
period_one col r k =
    let p = period_short (coef_at r col) r.k k in
    period_more col [] r (pos 1) (period col r) k (period_none col) (record { positive = p.positive; small = omega (arith, linear); first = record { quotient = period col r; is = omega (arith, linear) }; second = Divides_self (period col r) })
