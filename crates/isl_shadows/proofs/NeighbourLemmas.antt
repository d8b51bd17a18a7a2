-- Numbers that moduli must not divide, on one column: bounds that a run of neighbours meets, and the residues of a common period.
use Rattle.std.proofs.Common.{◌≡◌, ◌⊎◌, inl, inr, ◌↔◌, ap, arith, ℤ, pos, ◌+ℤ◌, ◌-ℤ◌, ◌*ℤ◌, ◌≤ℤ◌, ◌<ℤ◌, List, get_or}
use Rattle.std.specs.List.{All, Any}
use Rattle.isl_math.specs.Divide.{Divides, IsCongruent, floor_mod}
use Rattle.isl_math.proofs.Ring.{expand, linear}
use Rattle.isl_math.proofs.OrderLaws.{cases_ℤ, at_most_or_above}
use Rattle.isl_math.proofs.DivideLaws.{Divides-+ℤ, Divides-minus, Divides_trans, Divides-same, Divides-from_mod, mod-from_Divides, floor_mod_bounds, IsCongruent-floor_mod}
use Rattle.isl_math.proofs.ListLaws.{all_or_any}
use Rattle.isl_omega.specs.Shadow.{Bound, IsPositive, MeetsLower, MeetsUpper}
use Rattle.isl_omega.proofs.ShadowLemmas.{lower_holds_on, upper_holds_on}

-- k divides z, or it does not
pub Divides_or_not : (k z : ℤ) → pos 0 <ℤ k → Divides k z ⊎ ¬ Divides k z
Divides_or_not k z p = elim (cases_ℤ (floor_mod z k) (pos 0)) [
  | inl l ↦ inr (λ d. let e = mod-from_Divides k z p d in omega (arith, linear))
  | inr r ↦ elim r [
    | inl e ↦ inl (Divides-from_mod k z p e)
    | inr g ↦ inr (λ d. let e = mod-from_Divides k z p d in omega (arith, linear))
  ]
]

-- ---- of so many neighbours one is met
-- the upper bound that holds at x exactly where the old one holds at x + n too
abbrev pub shifted : ℤ → Bound → Bound
shifted n u = record { factor = u.factor; rest = u.rest -ℤ n *ℤ u.factor }

pub shifted_is : (n x : ℤ) (u : Bound) → MeetsUpper x (shifted n u) ↔ MeetsUpper (x +ℤ n) u
shifted_is n x u = by n x u.factor u.rest
  where
    by : (n x b g : ℤ) → ((b *ℤ x) ≤ℤ (g -ℤ n *ℤ b)) ↔ ((b *ℤ (x +ℤ n)) ≤ℤ g)
    by n x b g = ((λ h. let h' = simp expand at h in simp expand (omega (arith, linear))), (λ h. let h' = simp expand at h in simp expand (omega (arith, linear))))

-- of two neighbours k leaves one undivided, where it does not divide c
pub one_of_two : (k c f x : ℤ) → pos 0 <ℤ k → ¬ Divides k c → (¬ Divides k (c *ℤ x +ℤ f)) ⊎ (¬ Divides k (c *ℤ (x +ℤ pos 1) +ℤ f))
one_of_two k c f x p n = elim (Divides_or_not k (c *ℤ x +ℤ f) p) [
  | inr m ↦ inl m
  | inl d ↦ inr (λ e. n (Divides-same k (c *ℤ (x +ℤ pos 1) +ℤ f -ℤ (c *ℤ x +ℤ f)) c (simp expand (omega (arith, linear))) (Divides-minus k (c *ℤ (x +ℤ pos 1) +ℤ f) (c *ℤ x +ℤ f) e d)))
]

-- x and x + n meet the bounds
pub record MeetsRun (lowers uppers : List Bound) (n x : ℤ) : Type 0 where
  pub above : All (MeetsLower x) lowers
  pub below : All (λ u. MeetsUpper x (shifted n u)) uppers

-- so does each whole number between them
pub run_within : (lowers uppers : List Bound) (n x t : ℤ) → All IsPositive lowers → All IsPositive uppers → MeetsRun lowers uppers n x → pos 0 ≤ℤ t
    → t ≤ℤ n
    → All (MeetsLower (x +ℤ t)) lowers × All (MeetsUpper (x +ℤ t)) uppers
run_within lowers uppers n x t q r m low high =
    let after : x ≤ℤ (x +ℤ t) = omega (arith, linear) in
    let before : (x +ℤ t) ≤ℤ (x +ℤ n) = omega (arith, linear) in (
      (λ i d l. lower_holds_on x (x +ℤ t) (get_or lowers i d) (q i d l) after (m.above i d l)),
      (λ i d l. upper_holds_on (x +ℤ n) (x +ℤ t) (get_or uppers i d) (r i d l) before ((shifted_is n x (get_or uppers i d)).0 (m.below i d l))),
    )

-- x meets the bound and x - n does not: so its value at x is at most n times its factor less 1
abbrev pub IsEnd : ℤ → ℤ → Bound → Type 0
IsEnd n x l = (l.factor *ℤ x +ℤ l.rest) ≤ℤ (n *ℤ l.factor -ℤ pos 1)

-- a number that meets the upper bounds is near the end of a lower bound, or the last of a run within the bounds
pub run_covers : (lowers uppers : List Bound) (n x : ℤ) → All (MeetsUpper x) uppers → MeetsRun lowers uppers n (x -ℤ n) ⊎ Any (IsEnd n x) lowers
run_covers lowers uppers n x k = elim (all_or_any (MeetsLower (x -ℤ n)) (IsEnd n x) lowers (λ i d l. step (get_or lowers i d))) [
  | inr a ↦ inr a
  | inl a ↦ inl (record { above = a; below = (λ i d l. (shifted_is n (x -ℤ n) (get_or uppers i d)).1 (same (get_or uppers i d) (k i d l))) })
]
  where
    step : (l : Bound) → MeetsLower (x -ℤ n) l ⊎ IsEnd n x l
    step l = by n x l.factor l.rest
      where
        by : (n x a f : ℤ) → (pos 0 ≤ℤ (a *ℤ (x -ℤ n) +ℤ f)) ⊎ ((a *ℤ x +ℤ f) ≤ℤ (n *ℤ a -ℤ pos 1))
        by n x a f = elim (at_most_or_above (pos 0) (a *ℤ (x -ℤ n) +ℤ f)) [ inl m ↦ inl m | inr m ↦ inr (let m' = simp expand at m in simp expand (omega (arith, linear))) ]

    same : (u : Bound) → MeetsUpper x u → MeetsUpper (x -ℤ n +ℤ n) u
    same u h = by x (x -ℤ n +ℤ n) u (omega (arith, linear)) h
      where
        by : (x y : ℤ) (u : Bound) → x ≡ y → MeetsUpper x u → MeetsUpper y u
        by x y u e h = rw e at h

-- ---- residues
-- where the period p times c is a multiple of k, what k divides depends on the residue modulo p alone
pub depends_on_residue : (k c f p x t : ℤ) → Divides k (c *ℤ p) → IsCongruent p x t → Divides k (c *ℤ x +ℤ f) ↔ Divides k (c *ℤ t +ℤ f)
depends_on_residue k c f p x t m e =
    let d = Divides_trans k (c *ℤ p) (c *ℤ (x -ℤ t)) m (record { quotient = e.quotient; is = (let i = simp expand at (ap (λ w. c *ℤ w) e.is) in simp expand (omega (arith, linear))) }) in (
      (λ h. Divides-same k (c *ℤ x +ℤ f -ℤ c *ℤ (x -ℤ t)) (c *ℤ t +ℤ f) (simp expand (omega (arith, linear))) (Divides-minus k (c *ℤ x +ℤ f) (c *ℤ (x -ℤ t)) h d)),
      (λ h. Divides-same k (c *ℤ t +ℤ f +ℤ c *ℤ (x -ℤ t)) (c *ℤ x +ℤ f) (simp expand (omega (arith, linear))) (Divides-+ℤ k (c *ℤ t +ℤ f) (c *ℤ (x -ℤ t)) h d)),
    )

-- each x has a residue from 0 to p - 1
pub residue : (p x : ℤ) → pos 0 <ℤ p → (t : ℤ) × (pos 0 ≤ℤ t) × (t <ℤ p) × Divides p (x -ℤ t)
residue p x h = let b = floor_mod_bounds x p h in (floor_mod x p, b.0, b.1, IsCongruent-floor_mod p x h)
