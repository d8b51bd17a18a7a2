-- The least list of numbers is the first point of a form.
use Rattle.std.proofs.Common.{◌≡◌, ◌⊎◌, ◌↔◌, inl, inr, refl, sym, ap, ◌∙◌, subst, arith, ℕ, ℤ, List, length, Option, Some, None}
use Rattle.isl_math.specs.Order.{IsBefore}
use Rattle.isl_math.proofs.OrderLaws.{IsBefore-cases}
use Rattle.isl_space.specs.Form.{Form}
use Rattle.isl_relation.specs.Orders.{ComesBefore}
use Rattle.isl_relation.specs.Point.{Point}
use Rattle.isl_pip_law.specs.Least.{GivesLeast, IsLeast}

least_unique : (w : ℕ) (P : List ℤ → Type 0) (a b : List ℤ) → ((ys : List ℤ) → P ys → length ys ≡ w) → IsLeast P a → IsLeast P b → a ≡ b
least_unique w P a b long p q = elim (IsBefore-cases a b (long a p.0 ∙ sym (long b q.0))) [
  | inl before ↦ absurd (q.1 a p.0 before)
  | inr other ↦ elim other [
    | inl same ↦ same
    | inr behind ↦ absurd (p.1 b q.0 behind)
  ]
]

-- R says of points of the form what P says of their numbers
module _ (w : ℕ) (P : List ℤ → Type 0) (long : (ys : List ℤ) → P ys → length ys ≡ w) (form : Form) (R : Point → Type 0)
    (same : (y : Point) → y.form ≡ form → R y ↔ P y.numbers) where
  abbrev IsFirst : Point → Type 0
  IsFirst y = R y × ((z : Point) → R z → ¬ ComesBefore z y)

  first_from : (y : Point) → y.form ≡ form → IsLeast P y.numbers → IsFirst y
  first_from y e least = (
    (same y e).1 least.0,
    λ z r before. least.1 z.numbers ((same z (before.form ∙ e)).0 r) before.before,
  )

  pub least_from_first : (y : Point) → y.form ≡ form → IsFirst y → IsLeast P y.numbers
  least_from_first y e first = (
    (same y e).0 first.0,
    λ zs p before.
        let z : Point = record { form = form; numbers = zs } in
        first.1 z ((same z refl).1 p) (record { form = sym e; before = before }),
  )

  pub firsts : (r : Option (List ℤ)) → GivesLeast P r
      → ((y : Point) → y.form ≡ form → (r ≡ Some y.numbers) ↔ (R y × ((z : Point) → R z → ¬ ComesBefore z y)))
      × ((r ≡ None) ↔ ((y : Point) → y.form ≡ form → ¬ R y))
  firsts None none = (
    (λ y e. ((λ h. cc), (λ first. absurd (none y.numbers ((same y e).0 first.0))))),
    ((λ h y e r. none y.numbers ((same y e).0 r)), (λ h. refl)),
  )
  firsts (Some ys) least = (
    (λ y e. (
      (λ h. first_from y e (subst (IsLeast P) (numbers_same ys y.numbers h) least)),
      (λ first. ap Some (least_unique w P ys y.numbers long least (least_from_first y e first))),
    )),
    (
      (λ h. cc),
      (λ h. let y : Point = record { form = form; numbers = ys } in absurd (h y refl ((same y refl).1 least.0))),
    ),
  )
    where
      numbers_same : (a b : List ℤ) → Some a ≡ Some b → a ≡ b
      numbers_same a b h = cc
