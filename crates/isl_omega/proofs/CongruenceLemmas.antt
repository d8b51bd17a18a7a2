-- Congruences on one column. Several are merged into one by Euclid's steps; one is a progression, which a substitution
-- follows without a list of its residues.
use Rattle.std.proofs.Common.{◌≡◌, ◌↔◌, ap, arith, ℤ, pos, ◌+ℤ◌, ◌-ℤ◌, ◌*ℤ◌}
use Rattle.isl_math.specs.Divide.{Divides}
use Rattle.isl_math.proofs.Ring.{expand, linear}
use Rattle.isl_math.proofs.DivideLaws.{Divides-+ℤ, Divides-minus, Divides-*ℤ, Divides-same}

-- ---- two congruences of one modulus

-- Euclid's step on two values: k divides p and q exactly where it divides q and p - t q
pub merge_step : (k p q t r : ℤ) → Divides k (p -ℤ t *ℤ q -ℤ r) → (Divides k p × Divides k q) ↔ (Divides k q × Divides k r)
merge_step k p q t r h = (
  (λ d. (
    d.1,
    Divides-same k (p -ℤ q *ℤ t -ℤ (p -ℤ t *ℤ q -ℤ r)) r (simp expand (omega (arith, linear)))
        (Divides-minus k (p -ℤ q *ℤ t) (p -ℤ t *ℤ q -ℤ r) (Divides-minus k p (q *ℤ t) d.0 (Divides-*ℤ k q t d.1)) h),
  )),
  (λ d. (
    Divides-same k (p -ℤ t *ℤ q -ℤ r +ℤ r +ℤ q *ℤ t) p (simp expand (omega (arith, linear)))
        (Divides-+ℤ k (p -ℤ t *ℤ q -ℤ r +ℤ r) (q *ℤ t) (Divides-+ℤ k (p -ℤ t *ℤ q -ℤ r) r h d.1) (Divides-*ℤ k q t d.0)),
    d.0,
  )),
)

-- ---- one congruence: k divides c x + f

-- k = g m and c = g n, where d is the inverse of -n modulo m, and h is d f up to a multiple of k
pub record Progression (k c f g d h : ℤ) : Type 0 where
  pub modulus : Divides g k
  pub coefficient : Divides g c
  pub inverse : Divides modulus.quotient (coefficient.quotient *ℤ d +ℤ pos 1)
  pub offset : Divides k (d *ℤ f -ℤ h)

-- no x has the congruence where g does not divide f
pub divides_rest : (k c f g x : ℤ) → Divides g k → Divides g c → Divides k (c *ℤ x +ℤ f) → Divides g f
divides_rest k c f g x m n h = record { quotient = m.quotient *ℤ h.quotient -ℤ n.quotient *ℤ x; is = by k c f g x m.quotient n.quotient h.quotient m.is n.is h.is }
  where
    by : (k c f g x m n q : ℤ) → k ≡ g *ℤ m → c ≡ g *ℤ n → c *ℤ x +ℤ f ≡ k *ℤ q → f ≡ g *ℤ (m *ℤ q -ℤ n *ℤ x)
    by k c f g x m n q a b e =
        let a' = simp expand at (ap (λ w. q *ℤ w) a) in
        let b' = simp expand at (ap (λ w. x *ℤ w) b) in
        let e' = simp expand at e in
        simp expand (omega (arith, linear))

-- each x of the congruence is met by some y: g x = k y + h
pub progression_meets : (k c f g d h x : ℤ) → Progression k c f g d h → Divides k (c *ℤ x +ℤ f) → (y : ℤ) × (g *ℤ x ≡ k *ℤ y +ℤ h)
progression_meets k c f g d h x s e =
    let j = s.inverse.quotient in
    (j *ℤ x -ℤ e.quotient *ℤ d +ℤ s.offset.quotient, by k c f g d h x s.modulus.quotient s.coefficient.quotient j s.offset.quotient e.quotient s.modulus.is s.coefficient.is s.inverse.is s.offset.is e.is)
  where
    by : (k c f g d h x m n j t q : ℤ) → k ≡ g *ℤ m → c ≡ g *ℤ n → n *ℤ d +ℤ pos 1 ≡ m *ℤ j → d *ℤ f -ℤ h ≡ k *ℤ t → c *ℤ x +ℤ f ≡ k *ℤ q → g *ℤ x ≡ k *ℤ (j *ℤ x -ℤ q *ℤ d +ℤ t) +ℤ h
    by k c f g d h x m n j t q a b i o e =
        let e' = simp expand at (ap (λ w. d *ℤ w) e) in
        let o' = simp expand at o in
        let i' = simp expand at (ap (λ w. g *ℤ x *ℤ w) i) in
        let a' = simp expand at (ap (λ w. j *ℤ x *ℤ w) a) in
        let b' = simp expand at (ap (λ w. d *ℤ x *ℤ w) b) in
        simp expand (omega (arith, linear))

-- where g divides f, each y gives an x of the congruence
pub progression_gives : (k c f g d h y : ℤ) → Progression k c f g d h → Divides g f → (x : ℤ) × (g *ℤ x ≡ k *ℤ y +ℤ h) × Divides k (c *ℤ x +ℤ f)
progression_gives k c f g d h y s r =
    let m = s.modulus.quotient in
    let n = s.coefficient.quotient in
    let j = s.inverse.quotient in
    let t = s.offset.quotient in
    let v = r.quotient in (
      m *ℤ (y -ℤ t) +ℤ d *ℤ v,
      by k c f g d h y m n j t v s.modulus.is s.coefficient.is s.inverse.is s.offset.is r.is,
      record { quotient = n *ℤ (y -ℤ t) +ℤ v *ℤ j; is = lies k c f g d y m n j t v s.modulus.is s.coefficient.is s.inverse.is r.is },
    )
  where
    by : (k c f g d h y m n j t v : ℤ) → k ≡ g *ℤ m → c ≡ g *ℤ n → n *ℤ d +ℤ pos 1 ≡ m *ℤ j → d *ℤ f -ℤ h ≡ k *ℤ t → f ≡ g *ℤ v → g *ℤ (m *ℤ (y -ℤ t) +ℤ d *ℤ v) ≡ k *ℤ y +ℤ h
    by k c f g d h y m n j t v a b i o r =
        let r' = simp expand at (ap (λ w. d *ℤ w) r) in
        let o' = simp expand at o in
        let a1 = simp expand at (ap (λ w. y *ℤ w) a) in
        let a2 = simp expand at (ap (λ w. t *ℤ w) a) in
        simp expand (omega (arith, linear))

    lies : (k c f g d y m n j t v : ℤ) → k ≡ g *ℤ m → c ≡ g *ℤ n → n *ℤ d +ℤ pos 1 ≡ m *ℤ j → f ≡ g *ℤ v → c *ℤ (m *ℤ (y -ℤ t) +ℤ d *ℤ v) +ℤ f ≡ k *ℤ (n *ℤ (y -ℤ t) +ℤ v *ℤ j)
    lies k c f g d y m n j t v a b i r = rw (a, b, r)
        (let i' = simp expand at (ap (λ w. g *ℤ v *ℤ w) i) in simp expand (omega (arith, linear)))
