-- A number at a column with an end, on the side of that end.
use Rattle.std.proofs.Common.{◌≡◌, ◌≢◌, inl, inr, sym, arith, ℕ, ◌+◌, ◌*◌, ℤ, pos, neg_ℤ, ◌+ℤ◌, ◌*ℤ◌, ◌≤ℤ◌, ◌<ℤ◌, unsigned_abs, List}
use Rattle.std.proofs.Common.{[], ◌∷◌}
use Rattle.std.specs.List.{All, remove}
use Rattle.std.proofs.lemmas.List.Elements.{All-head, All-tail}
use Rattle.isl_math.specs.Dot.{dot}
use Rattle.isl_math.proofs.Ring.{expand, linear}
use Rattle.isl_math.proofs.OrderLaws.{≤ℤ-*ℤ, ≤ℤ-from_*ℤ, cases_ℤ}
use Rattle.isl_math.proofs.MagnitudeLaws.{IsUpTo, up_to-sum, up_to-neg, up_to-product}
use Rattle.isl_piece.specs.declared.row.RowKind.{RowKind}
use Rattle.isl_piece.specs.declared.row.RowKind.TheVariants.{Zero, AtLeast, Divides, NotDivides}
use Rattle.isl_piece.specs.declared.row.Row.{Row}
use Rattle.isl_piece.specs.Row.{HoldsValue}
use Rattle.isl_omega.specs.Column.{rest_at}
use Rattle.isl_tower.specs.Ends.{EndsBelow, EndsAbove}

-- a x + f is at least 0, where a is above 0
at_least : (a x f : ℤ) (m : ℕ) → pos 0 <ℤ a → IsUpTo m f → pos 0 ≤ℤ (a *ℤ x +ℤ f) → neg_ℤ (pos m) ≤ℤ x
at_least a x f m p u h = ≤ℤ-from_*ℤ a (neg_ℤ (pos m)) x p (by (pos m) (omega (arith, linear)) (omega (arith, linear)))
  where
    by : (z : ℤ) → pos 0 ≤ℤ z → f ≤ℤ z → (a *ℤ neg_ℤ z) ≤ℤ (a *ℤ x)
    by z l g = let t = simp expand at (≤ℤ-*ℤ z (pos 1) a l (omega (arith, linear))) in let h' = simp expand at h in
        simp expand (omega (arith, linear))

-- the same where it is 0, and a is not
nought : (a x f : ℤ) (m : ℕ) → a ≢ pos 0 → IsUpTo m f → a *ℤ x +ℤ f ≡ pos 0 → neg_ℤ (pos m) ≤ℤ x
nought a x f m n u h = elim (cases_ℤ (pos 0) a) [
  | inl p ↦ at_least a x f m p u (omega (arith, linear))
  | inr q ↦ elim q [
    | inl e ↦ absurd (n (sym e))
    | inr l ↦ at_least (neg_ℤ a) x (neg_ℤ f) m (omega (arith, linear)) (up_to-neg m f u) (turned a x f h)
  ]
]
  where
    turned : (a x f : ℤ) → a *ℤ x +ℤ f ≡ pos 0 → pos 0 ≤ℤ (neg_ℤ a *ℤ x +ℤ neg_ℤ f)
    turned a x f h = let h' = simp expand at h in simp expand (omega (arith, linear))

pub low_number : (kind : RowKind) (k c x f : ℤ) (m : ℕ) → EndsBelow kind c → IsUpTo m f → HoldsValue kind k (c *ℤ x +ℤ f)
    → neg_ℤ (pos m) ≤ℤ x
low_number Zero k c x f m e u h = nought c x f m e u h
low_number AtLeast k c x f m e u h = at_least c x f m e u h
low_number Divides k c x f m e u h = absurd e
low_number NotDivides k c x f m e u h = absurd e

pub high_number : (kind : RowKind) (k c x f : ℤ) (m : ℕ) → EndsAbove kind c → IsUpTo m f → HoldsValue kind k (c *ℤ x +ℤ f) → x ≤ℤ pos m
high_number Zero k c x f m e u h = let t = nought (neg_ℤ c) (neg_ℤ x) f m (λ z. e (omega (arith, linear))) u (turned c x f h) in
    omega (arith, linear)
  where
    turned : (c x f : ℤ) → c *ℤ x +ℤ f ≡ pos 0 → neg_ℤ c *ℤ neg_ℤ x +ℤ f ≡ pos 0
    turned c x f h = let h' = simp expand at h in simp expand (omega (arith, linear))
high_number AtLeast k c x f m e u h = let t = at_least (neg_ℤ c) (neg_ℤ x) f m (omega (arith, linear)) u (turned c x f h) in
    omega (arith, linear)
  where
    turned : (c x f : ℤ) → pos 0 ≤ℤ (c *ℤ x +ℤ f) → pos 0 ≤ℤ (neg_ℤ c *ℤ neg_ℤ x +ℤ f)
    turned c x f h = let h' = simp expand at h in simp expand (omega (arith, linear))
high_number Divides k c x f m e u h = absurd e
high_number NotDivides k c x f m e u h = absurd e

-- how far a form goes over numbers of magnitudes up to b, and what stands beside a column in a row
form_reach : ℕ → List ℤ → ℕ
form_reach b [] = 0
form_reach b (c ∷ cs) = unsigned_abs c * b + form_reach b cs

pub row_reach : ℕ → ℕ → Row → ℕ
row_reach b col r = form_reach b (remove r.coefs col) + unsigned_abs r.constant

reach_dot : (b : ℕ) (cs xs : List ℤ) → All (IsUpTo b) xs → IsUpTo (form_reach b cs) (dot cs xs)
unfolding form_reach
reach_dot b [] xs h = omega (arith, linear)
reach_dot b (c ∷ cs) [] h = omega (arith, linear)
reach_dot b (c ∷ cs) (x ∷ xs) h =
    up_to-sum (unsigned_abs c * b) (form_reach b cs) (c *ℤ x) (dot cs xs)
    (up_to-product (unsigned_abs c) b c x (omega arith) (All-head (IsUpTo b) x xs h)) (reach_dot b cs xs (All-tail (IsUpTo b) x xs h))

pub reach_rest : (b col : ℕ) (r : Row) (point : List ℤ) → All (IsUpTo b) point → IsUpTo (row_reach b col r) (rest_at r col point)
unfolding row_reach
reach_rest b col r point h = up_to-sum (form_reach b (remove r.coefs col)) (unsigned_abs r.constant)
    (dot (remove r.coefs col) point) r.constant (reach_dot b (remove r.coefs col) point h) (omega arith)
