-- What congruences on one column say of its number.
use Rattle.std.proofs.Common.{◌≡◌, ◌↔◌, sym, ap, subst, arith, ℤ, pos, neg_ℤ, ◌+ℤ◌, ◌-ℤ◌, ◌*ℤ◌, ◌<ℤ◌, [], ◌∷◌, length}
use Rattle.isl_math.specs.Divide as divide
use Rattle.isl_math.specs.Divide.{floor_div, floor_mod, IsCongruent, IsGcdOf, IsInverse}
use Rattle.isl_math.proofs.Ring.{expand, linear}
use Rattle.isl_math.proofs.DivideLaws.{Divides-+ℤ, Divides-minus, Divides-*ℤ, Divides-same, Divides_trans}
use Rattle.isl_math.proofs.DivideLaws.{Divides_scaled, IsCongruent-floor_mod, Divides-from_mod, mod-from_Divides, exact_quotient}
use Rattle.isl_piece.specs.declared.row.RowKind.TheVariants.{Divides}
use Rattle.isl_piece.specs.declared.row.Row.{Row}
use Rattle.isl_piece.specs.Row.{HoldsRow, coef_at}
use Rattle.isl_omega.proofs.SubstitutionLemmas.{AreCoprimeParts}
use Rattle.isl_points.proofs.BoundLaws.{one_value}

-- ---- one congruence
pub unsolvable : (c f k g m n x : ℤ) → AreCoprimeParts c k g m n → ¬ (floor_mod f g ≡ pos 0) → ¬ divide.Divides k (c *ℤ x +ℤ f)
unsolvable c f k g m n x p none d =
    let modulus : divide.Divides g k = record { quotient = m; is = p.modulus } in
    let coefficient : divide.Divides g c = record { quotient = n; is = p.coefficient } in
    let whole = Divides_trans g k (c *ℤ x +ℤ f) modulus d in
    let beside = Divides-same g (c *ℤ x +ℤ f -ℤ c *ℤ x) f (omega (arith, linear))
    (Divides-minus g (c *ℤ x +ℤ f) (c *ℤ x) whole (Divides-*ℤ g c x coefficient)) in
    none (mod-from_Divides g f p.positive beside)

-- v is the inverse of n modulo m: n x + q is divisible by m exactly where x + q v is
inverted : (m n q v x : ℤ) → divide.Divides m (n *ℤ v -ℤ pos 1) → divide.Divides m (x +ℤ q *ℤ v) ↔ divide.Divides m (n *ℤ x +ℤ q)
inverted m n q v x i = (
  (λ d. Divides-same m ((x +ℤ q *ℤ v) *ℤ n -ℤ (n *ℤ v -ℤ pos 1) *ℤ q) (n *ℤ x +ℤ q) (simp expand (omega (arith, linear)))
      (Divides-minus m ((x +ℤ q *ℤ v) *ℤ n) ((n *ℤ v -ℤ pos 1) *ℤ q)
      (Divides-*ℤ m (x +ℤ q *ℤ v) n d) (Divides-*ℤ m (n *ℤ v -ℤ pos 1) q i))),
  (λ d. Divides-same m ((n *ℤ x +ℤ q) *ℤ v -ℤ (n *ℤ v -ℤ pos 1) *ℤ x) (x +ℤ q *ℤ v) (simp expand (omega (arith, linear)))
      (Divides-minus m ((n *ℤ x +ℤ q) *ℤ v) ((n *ℤ v -ℤ pos 1) *ℤ x)
      (Divides-*ℤ m (n *ℤ x +ℤ q) v d) (Divides-*ℤ m (n *ℤ v -ℤ pos 1) x i))),
)

-- a number that is as -q v modulo m
shifted : (m q v first x : ℤ) → divide.Divides m (first +ℤ q *ℤ v) → divide.Divides m (x -ℤ first) ↔ divide.Divides m (x +ℤ q *ℤ v)
shifted m q v first x s = (
  (λ d. Divides-same m (x -ℤ first +ℤ (first +ℤ q *ℤ v)) (x +ℤ q *ℤ v) (omega (arith, linear))
      (Divides-+ℤ m (x -ℤ first) (first +ℤ q *ℤ v) d s)),
  (λ d. Divides-same m (x +ℤ q *ℤ v -ℤ (first +ℤ q *ℤ v)) (x -ℤ first) (omega (arith, linear))
      (Divides-minus m (x +ℤ q *ℤ v) (first +ℤ q *ℤ v) d s)),
)

first_is : (m q b v p first : ℤ) → pos 0 <ℤ m → b ≡ floor_mod q m → p ≡ b *ℤ v → first ≡ floor_mod (neg_ℤ p) m
    → divide.Divides m (first +ℤ q *ℤ v)
first_is m q b v p first above e f g =
    let near : divide.Divides m (q -ℤ b) = subst (λ z. divide.Divides m (q -ℤ z)) (sym e) (IsCongruent-floor_mod m q above) in
    let low : divide.Divides m (neg_ℤ p -ℤ first) = subst (λ z. divide.Divides m (neg_ℤ p -ℤ z)) (sym g)
    (IsCongruent-floor_mod m (neg_ℤ p) above) in
    Divides-same m ((q -ℤ b) *ℤ v -ℤ (neg_ℤ p -ℤ first)) (first +ℤ q *ℤ v)
    (let f' = simp expand at f in simp expand (omega (arith, linear)))
    (Divides-minus m ((q -ℤ b) *ℤ v) (neg_ℤ p -ℤ first) (Divides-*ℤ m (q -ℤ b) v near) low)

pub solved_is : (c f k g m n b v p first x : ℤ) → AreCoprimeParts c k g m n → floor_mod f g ≡ pos 0 → b ≡ floor_mod (floor_div f g) m
    → IsInverse n m v → p ≡ b *ℤ v → first ≡ floor_mod (neg_ℤ p) m
    → divide.Divides m (x -ℤ first) ↔ divide.Divides k (c *ℤ x +ℤ f)
solved_is c f k g m n b v p first x a none e i h l =
    let q = floor_div f g in
    let rest : g *ℤ q ≡ f = exact_quotient g f a.positive (Divides-from_mod g f a.positive none) in
    let s = shifted m q v first x (first_is m q b v p first a.m_positive e h l) in
    let t = inverted m n q v x i.inverse in
    let u = Divides_scaled g m (n *ℤ x +ℤ q) a.positive in
    let same : g *ℤ (n *ℤ x +ℤ q) ≡ c *ℤ x +ℤ f = by g n x q c f a.coefficient rest in (
      (λ d. subst (λ z. divide.Divides z (c *ℤ x +ℤ f)) (sym a.modulus)
          (Divides-same (g *ℤ m) (g *ℤ (n *ℤ x +ℤ q)) (c *ℤ x +ℤ f) same (u.1 (t.0 (s.0 d))))),
      (λ d. s.1 (t.1 (u.0 (Divides-same (g *ℤ m) (c *ℤ x +ℤ f) (g *ℤ (n *ℤ x +ℤ q)) (sym same)
          (subst (λ z. divide.Divides z (c *ℤ x +ℤ f)) a.modulus d))))),
    )
  where
    by : (g n x q c f : ℤ) → c ≡ g *ℤ n → g *ℤ q ≡ f → g *ℤ (n *ℤ x +ℤ q) ≡ c *ℤ x +ℤ f
    by g n x q c f e h = let e' = simp expand at (ap (λ (z : ℤ). z *ℤ x) e) in
        let h' = simp expand at h in simp expand (omega (arith, linear))

-- ---- several congruences
-- x is on the progression of first f and step s at the place z: it is f + s z
at_place : (f s c r a b z x : ℤ) → x -ℤ f ≡ s *ℤ z → a ≡ c *ℤ s → b ≡ c *ℤ f +ℤ r → a *ℤ z +ℤ b ≡ c *ℤ x +ℤ r
at_place f s c r a b z x e h l =
    let e' = simp expand at (ap (λ (w : ℤ). c *ℤ w) e) in
    let h' = simp expand at (ap (λ (w : ℤ). w *ℤ z) h) in
    let l' = simp expand at l in
    simp expand (omega (arith, linear))

pub every_is : (f s y m c r k a b p q x : ℤ) → pos 0 <ℤ s → a ≡ c *ℤ s → b ≡ c *ℤ f +ℤ r → p ≡ f +ℤ s *ℤ y → q ≡ s *ℤ m
    → ((z : ℤ) → divide.Divides m (z -ℤ y) ↔ divide.Divides k (a *ℤ z +ℤ b))
    → divide.Divides q (x -ℤ p) ↔ (divide.Divides s (x -ℤ f) × divide.Divides k (c *ℤ x +ℤ r))
every_is f s y m c r k a b p q x above h l e g n = (
  (λ d.
      let z = y +ℤ m *ℤ d.quotient in
      let on : x -ℤ f ≡ s *ℤ z = forth d.quotient d.is in (
        record { quotient = z; is = on },
        Divides-same k (a *ℤ z +ℤ b) (c *ℤ x +ℤ r) (at_place f s c r a b z x on h l)
            ((n z).0 (record { quotient = d.quotient; is = simp expand (omega (arith, linear)) })),
      )),
  (λ d.
      let z = d.0.quotient in
      let t = (n z).1 (Divides-same k (c *ℤ x +ℤ r) (a *ℤ z +ℤ b) (sym (at_place f s c r a b z x d.0.is h l)) d.1) in
      record { quotient = t.quotient; is = back z t.quotient d.0.is t.is }),
)
  where
    forth : (t : ℤ) → x -ℤ p ≡ q *ℤ t → x -ℤ f ≡ s *ℤ (y +ℤ m *ℤ t)
    forth t i =
        let i' = simp expand at i in
        let g' = simp expand at (ap (λ (w : ℤ). w *ℤ t) g) in
        let e' = simp expand at e in
        simp expand (omega (arith, linear))

    back : (z t : ℤ) → x -ℤ f ≡ s *ℤ z → z -ℤ y ≡ m *ℤ t → x -ℤ p ≡ q *ℤ t
    back z t i j =
        let i' = simp expand at i in
        let j' = simp expand at (ap (λ (w : ℤ). s *ℤ w) j) in
        let g' = simp expand at (ap (λ (w : ℤ). w *ℤ t) g) in
        let e' = simp expand at e in
        simp expand (omega (arith, linear))

-- a congruence holds at a number
congruence_at : (r : Row) (x : ℤ) → r.kind ≡ Divides → length r.coefs ≡ 1
    → HoldsRow r (x ∷ []) ↔ divide.Divides r.k (coef_at r 0 *ℤ x +ℤ r.constant)
congruence_at r x is l = let v = one_value r x l in
    rw is ((λ h. subst (λ z. divide.Divides r.k z) v h), (λ h. subst (λ z. divide.Divides r.k z) (sym v) h))

-- the code's numbers are those of the row
same_form : (r : Row) (x c d k : ℤ) → c ≡ coef_at r 0 → d ≡ r.constant → k ≡ r.k
    → divide.Divides k (c *ℤ x +ℤ d) ↔ divide.Divides r.k (coef_at r 0 *ℤ x +ℤ r.constant)
same_form r x c d k e h l = rw (e, h, l) ((λ h. h), (λ h. h))

pub congruent_is : (r : Row) (x c d k f s y m a b p q : ℤ) → r.kind ≡ Divides → length r.coefs ≡ 1
    → c ≡ coef_at r 0 → d ≡ r.constant → k ≡ r.k → pos 0 <ℤ s → a ≡ c *ℤ s → b ≡ c *ℤ f +ℤ d → p ≡ f +ℤ s *ℤ y → q ≡ s *ℤ m
    → ((z : ℤ) → divide.Divides m (z -ℤ y) ↔ divide.Divides k (a *ℤ z +ℤ b))
    → divide.Divides q (x -ℤ p) ↔ (divide.Divides s (x -ℤ f) × HoldsRow r (x ∷ []))
congruent_is r x c d k f s y m a b p q is l ce de ke above h g e i n =
    let w = every_is f s y m c d k a b p q x above h g e i n in
    let v = congruence_at r x is l in
    let u = same_form r x c d k ce de ke in (
      (λ z. let t = w.0 z in (t.0, v.1 (u.0 t.1))),
      (λ z. w.1 (z.0, u.1 (v.0 z.1))),
    )

pub congruent_none : (r : Row) (x c d k f s a b : ℤ) → r.kind ≡ Divides → length r.coefs ≡ 1
    → c ≡ coef_at r 0 → d ≡ r.constant → k ≡ r.k → a ≡ c *ℤ s → b ≡ c *ℤ f +ℤ d
    → ((z : ℤ) → ¬ divide.Divides k (a *ℤ z +ℤ b)) → divide.Divides s (x -ℤ f) → ¬ HoldsRow r (x ∷ [])
congruent_none r x c d k f s a b is l ce de ke h g n on m =
    let v = congruence_at r x is l in
    let u = same_form r x c d k ce de ke in
    let z = on.quotient in
    n z (Divides-same k (c *ℤ x +ℤ d) (a *ℤ z +ℤ b) (sym (at_place f s c d a b z x on.is h g)) (u.1 (v.0 m)))
