-- Ends of a column: one without an end on a side goes on there for ever, and one with an end is bounded there.
use Rattle.std.proofs.Common.{◌≡◌, ◌≢◌, inl, inr, refl, sym, ap, arith, ℕ, zero, suc, ◌+◌, ◌*◌, ◌<◌, ◌≤◌, ℤ, pos, neg_ℤ, ◌+ℤ◌, ◌-ℤ◌}
use Rattle.std.proofs.Common.{◌*ℤ◌, ◌≤ℤ◌, ◌<ℤ◌, unsigned_abs, List, [], ◌∷◌, length, get_or}
use Rattle.std.specs.List.{All, insert, remove}
use Rattle.std.proofs.lemmas.List.{get_or_default}
use Rattle.std.proofs.lemmas.List.Elements.{All-nil, All-cons, All-head, All-tail, All-weaker}
use Rattle.isl_math.specs.Divide as divide
use Rattle.isl_math.specs.Dot.{dot}
use Rattle.isl_math.proofs.Ring.{expand, linear}
use Rattle.isl_math.proofs.OrderLaws.{≤ℤ-*ℤ, ≤ℤ-from_*ℤ, cases_ℤ, not_negative-*ℤ}
use Rattle.isl_math.proofs.DivideLaws.{Divides-+ℤ, Divides-minus, Divides-neg_ℤ, Divides-*ℤ, Divides-same}
use Rattle.isl_math.proofs.MagnitudeLaws.{IsUpTo, up_to-sum, up_to-neg, up_to-product}
use Rattle.isl_piece.specs.declared.row.RowKind.{RowKind}
use Rattle.isl_piece.specs.declared.row.RowKind.TheVariants.{Zero, AtLeast, Divides, NotDivides}
use Rattle.isl_piece.specs.declared.row.Row.{Row}
use Rattle.isl_piece.specs.Row.{HoldsValue, HoldsRow, coef_at, IsWellFormed}
use Rattle.isl_piece.specs.System.{HoldRows}
use Rattle.isl_omega.specs.Column.{rest_at}
use Rattle.isl_omega.specs.Congruence.{product_of_divisors}
use Rattle.isl_omega.proofs.ColumnLemmas.{value_at-insert}
use Rattle.isl_omega.proofs.MergeLemmas.{product_positive}
use Rattle.isl_tower.specs.Ends.{EndsBelow, EndsAbove, HasLowerEnd, HasUpperEnd}

-- ---- a number that moves
-- a row of this kind still holds where the number at a column with the coefficient c moves by d
abbrev pub Allows : RowKind → ℤ → ℤ → ℤ → Type 0
Allows Zero k c d = c ≡ pos 0
Allows AtLeast k c d = pos 0 ≤ℤ (c *ℤ d)
Allows Divides k c d = divide.Divides k d
Allows NotDivides k c d = divide.Divides k d

moved : (k c x d f : ℤ) → divide.Divides k d → divide.Divides k (c *ℤ x +ℤ f) → divide.Divides k (c *ℤ (x +ℤ d) +ℤ f)
moved k c x d f m h = Divides-same k (c *ℤ x +ℤ f +ℤ d *ℤ c) (c *ℤ (x +ℤ d) +ℤ f) (simp expand (omega (arith, linear)))
    (Divides-+ℤ k (c *ℤ x +ℤ f) (d *ℤ c) h (Divides-*ℤ k d c m))

moved_back : (k c x d f : ℤ) → divide.Divides k d → divide.Divides k (c *ℤ (x +ℤ d) +ℤ f) → divide.Divides k (c *ℤ x +ℤ f)
moved_back k c x d f m h = Divides-same k (c *ℤ (x +ℤ d) +ℤ f -ℤ d *ℤ c) (c *ℤ x +ℤ f) (simp expand (omega (arith, linear)))
    (Divides-minus k (c *ℤ (x +ℤ d) +ℤ f) (d *ℤ c) h (Divides-*ℤ k d c m))

holds_moved : (kind : RowKind) (k c x d f : ℤ) → Allows kind k c d → HoldsValue kind k (c *ℤ x +ℤ f)
    → HoldsValue kind k (c *ℤ (x +ℤ d) +ℤ f)
holds_moved Zero k c x d f a h = let p = ap (λ z. z *ℤ x) a in let q = ap (λ z. z *ℤ (x +ℤ d)) a in omega (arith, linear)
holds_moved AtLeast k c x d f a h = let p = simp expand at a in let q = simp expand at h in simp expand (omega (arith, linear))
holds_moved Divides k c x d f a h = moved k c x d f a h
holds_moved NotDivides k c x d f a h = λ m. h (moved_back k c x d f a m)

row_moved : (r : Row) (col : ℕ) (point : List ℤ) (x d : ℤ) → col < length r.coefs → col ≤ length point → Allows r.kind r.k (coef_at r col) d
    → HoldsRow r (insert point col x) → HoldsRow r (insert point col (x +ℤ d))
row_moved r col point x d h k a m =
    let at_x = value_at-insert r col point x h k in
    let at_y = value_at-insert r col point (x +ℤ d) h k in
    rw at_y (holds_moved r.kind r.k (coef_at r col) x d (rest_at r col point) a (rw at_x at m))

pub rows_moved : (columns col : ℕ) (rows : List Row) (point : List ℤ) (x d : ℤ) → All (IsWellFormed columns) rows → col < columns
    → col ≤ length point
    → All (λ r. Allows r.kind r.k (coef_at r col) d) rows → HoldRows rows (insert point col x) → HoldRows rows (insert point col (x +ℤ d))
rows_moved columns col rows point x d w h k a m = λ i e n. row_moved (get_or rows i e) col point x d
    (let l = (w i e n).width in omega (arith, l)) k (a i e n) (m i e n)

-- ---- a column without an end
zero_from : (c : ℤ) → ¬ (c ≢ pos 0) → c ≡ pos 0
zero_from c n = elim (cases_ℤ c (pos 0)) [
  | inl l ↦ absurd (n (λ e. omega (arith, linear)))
  | inr h ↦ elim h [
    | inl e ↦ e
    | inr g ↦ absurd (n (λ e. omega (arith, linear)))
  ]
]

falling : (kind : RowKind) (k c d : ℤ) → ¬ EndsBelow kind c → d ≤ℤ pos 0 → divide.Divides k d → Allows kind k c d
falling Zero k c d n l m = zero_from c n
falling AtLeast k c d n l m = let p = simp expand at
    (not_negative-*ℤ (neg_ℤ c) (neg_ℤ d) (omega (arith, linear)) (omega (arith, linear))) in simp expand (omega (arith, linear))
falling Divides k c d n l m = m
falling NotDivides k c d n l m = m

rising : (kind : RowKind) (k c d : ℤ) → ¬ EndsAbove kind c → pos 0 ≤ℤ d → divide.Divides k d → Allows kind k c d
rising Zero k c d n l m = zero_from c n
rising AtLeast k c d n l m = not_negative-*ℤ c d (omega (arith, linear)) l
rising Divides k c d n l m = m
rising NotDivides k c d n l m = m

-- the modulus of each row divides their product
divide_product : (rows : List Row) → All (λ r. divide.Divides r.k (product_of_divisors rows)) rows
divide_product [] = All-nil (λ r. divide.Divides r.k (product_of_divisors []))
divide_product (r ∷ rows) =
    let p = product_of_divisors rows in
    All-cons (λ q. divide.Divides q.k (r.k *ℤ p)) r rows (record { quotient = p; is = refl })
    (All-weaker (λ q. divide.Divides q.k p) (λ q. divide.Divides q.k (r.k *ℤ p))
    (λ q m. Divides-same q.k (p *ℤ r.k) (r.k *ℤ p) (by p r.k) (Divides-*ℤ q.k p r.k m)) rows (divide_product rows))
  where
    by : (a b : ℤ) → a *ℤ b ≡ b *ℤ a
    by a b = simp expand (omega (arith, linear))

-- a multiple of all moduli that is large enough
far_below : (x y : ℤ) (b : ℕ) → pos (b + unsigned_abs x + 1) ≤ℤ y → ¬ (unsigned_abs (x +ℤ neg_ℤ y) ≤ b)
far_below x y b h l = omega (arith, linear)

far_above : (x y : ℤ) (b : ℕ) → pos (b + unsigned_abs x + 1) ≤ℤ y → ¬ (unsigned_abs (x +ℤ y) ≤ b)
far_above x y b h l = omega (arith, linear)

multiple_large : (p : ℤ) (n : ℕ) → pos 0 <ℤ p → pos n ≤ℤ (p *ℤ pos n)
multiple_large p n h = by p (pos n) h (omega (arith, linear))
  where
    by : (p m : ℤ) → pos 0 <ℤ p → pos 0 ≤ℤ m → m ≤ℤ (p *ℤ m)
    by p m h l = let t = ≤ℤ-*ℤ m (pos 1) p l (omega (arith, linear)) in omega (arith, linear)

-- numbers at the column, as far away as is asked for
pub open_below : (columns col : ℕ) (rows : List Row) (point : List ℤ) (x : ℤ) (b : ℕ) → All (IsWellFormed columns) rows → col < columns
    → col ≤ length point
    → ¬ HasLowerEnd col rows → HoldRows rows (insert point col x) → (y : ℤ) × (¬ (unsigned_abs y ≤ b)) × HoldRows rows (insert point col y)
open_below columns col rows point x b w h k none m =
    let p = product_of_divisors rows in
    let n = b + unsigned_abs x + 1 in
    let large = multiple_large p n (product_positive columns rows w) in
    let low : neg_ℤ (p *ℤ pos n) ≤ℤ pos 0 = low_by (p *ℤ pos n) n large in
    let allows : All (λ r. Allows r.kind r.k (coef_at r col) (neg_ℤ (p *ℤ pos n))) rows = λ i d l.
    let r = get_or rows i d in
    falling r.kind r.k (coef_at r col) (neg_ℤ (p *ℤ pos n)) (λ e. none (i, r, l, get_or_default rows i r d l, e)) low
    (Divides-neg_ℤ r.k (p *ℤ pos n) (Divides-*ℤ r.k p (pos n) (divide_product rows i d l))) in
    (x +ℤ neg_ℤ (p *ℤ pos n), far_below x (p *ℤ pos n) b large, rows_moved columns col rows point x (neg_ℤ (p *ℤ pos n)) w h k allows m)
  where
    low_by : (y : ℤ) (n : ℕ) → pos n ≤ℤ y → neg_ℤ y ≤ℤ pos 0
    low_by y n h = omega (arith, linear)

pub open_above : (columns col : ℕ) (rows : List Row) (point : List ℤ) (x : ℤ) (b : ℕ) → All (IsWellFormed columns) rows → col < columns
    → col ≤ length point
    → ¬ HasUpperEnd col rows → HoldRows rows (insert point col x) → (y : ℤ) × (¬ (unsigned_abs y ≤ b)) × HoldRows rows (insert point col y)
open_above columns col rows point x b w h k none m =
    let p = product_of_divisors rows in
    let n = b + unsigned_abs x + 1 in
    let large = multiple_large p n (product_positive columns rows w) in
    let high : pos 0 ≤ℤ (p *ℤ pos n) = high_by (p *ℤ pos n) n large in
    let allows : All (λ r. Allows r.kind r.k (coef_at r col) (p *ℤ pos n)) rows = λ i d l.
    let r = get_or rows i d in
    rising r.kind r.k (coef_at r col) (p *ℤ pos n) (λ e. none (i, r, l, get_or_default rows i r d l, e)) high
    (Divides-*ℤ r.k p (pos n) (divide_product rows i d l)) in
    (x +ℤ p *ℤ pos n, far_above x (p *ℤ pos n) b large, rows_moved columns col rows point x (p *ℤ pos n) w h k allows m)
  where
    high_by : (y : ℤ) (n : ℕ) → pos n ≤ℤ y → pos 0 ≤ℤ y
    high_by y n h = omega (arith, linear)

-- ---- a column with an end
-- a x + f is at least 0, where a is above 0
at_least : (a x f : ℤ) (m : ℕ) → pos 0 <ℤ a → IsUpTo m f → pos 0 ≤ℤ (a *ℤ x +ℤ f) → neg_ℤ (pos m) ≤ℤ x
at_least a x f m p u h = ≤ℤ-from_*ℤ a (neg_ℤ (pos m)) x p (by (pos m) (omega (arith, linear)) (omega (arith, linear)))
  where
    by : (z : ℤ) → pos 0 ≤ℤ z → f ≤ℤ z → (a *ℤ neg_ℤ z) ≤ℤ (a *ℤ x)
    by z l g = let t = simp expand at (≤ℤ-*ℤ z (pos 1) a l (omega (arith, linear))) in let h' = simp expand at h in
        simp expand (omega (arith, linear))

-- the same where it is 0, and a is not
nought : (a x f : ℤ) (m : ℕ) → a ≢ pos 0 → IsUpTo m f → a *ℤ x +ℤ f ≡ pos 0 → neg_ℤ (pos m) ≤ℤ x
nought a x f m n u h = elim (cases_ℤ (pos 0) a) [
  | inl p ↦ at_least a x f m p u (omega (arith, linear))
  | inr q ↦ elim q [
    | inl e ↦ absurd (n (sym e))
    | inr l ↦ at_least (neg_ℤ a) x (neg_ℤ f) m (omega (arith, linear)) (up_to-neg m f u) (turned a x f h)
  ]
]
  where
    turned : (a x f : ℤ) → a *ℤ x +ℤ f ≡ pos 0 → pos 0 ≤ℤ (neg_ℤ a *ℤ x +ℤ neg_ℤ f)
    turned a x f h = let h' = simp expand at h in simp expand (omega (arith, linear))

low_number : (kind : RowKind) (k c x f : ℤ) (m : ℕ) → EndsBelow kind c → IsUpTo m f → HoldsValue kind k (c *ℤ x +ℤ f) → neg_ℤ (pos m) ≤ℤ x
low_number Zero k c x f m e u h = nought c x f m e u h
low_number AtLeast k c x f m e u h = at_least c x f m e u h
low_number Divides k c x f m e u h = absurd e
low_number NotDivides k c x f m e u h = absurd e

high_number : (kind : RowKind) (k c x f : ℤ) (m : ℕ) → EndsAbove kind c → IsUpTo m f → HoldsValue kind k (c *ℤ x +ℤ f) → x ≤ℤ pos m
high_number Zero k c x f m e u h = let t = nought (neg_ℤ c) (neg_ℤ x) f m (λ z. e (omega (arith, linear))) u (turned c x f h) in
    omega (arith, linear)
  where
    turned : (c x f : ℤ) → c *ℤ x +ℤ f ≡ pos 0 → neg_ℤ c *ℤ neg_ℤ x +ℤ f ≡ pos 0
    turned c x f h = let h' = simp expand at h in simp expand (omega (arith, linear))
high_number AtLeast k c x f m e u h = let t = at_least (neg_ℤ c) (neg_ℤ x) f m (omega (arith, linear)) u (turned c x f h) in
    omega (arith, linear)
  where
    turned : (c x f : ℤ) → pos 0 ≤ℤ (c *ℤ x +ℤ f) → pos 0 ≤ℤ (neg_ℤ c *ℤ neg_ℤ x +ℤ f)
    turned c x f h = let h' = simp expand at h in simp expand (omega (arith, linear))
high_number Divides k c x f m e u h = absurd e
high_number NotDivides k c x f m e u h = absurd e

-- how far a form goes over numbers of magnitudes up to b
pub form_reach : ℕ → List ℤ → ℕ
form_reach b [] = 0
form_reach b (c ∷ cs) = unsigned_abs c * b + form_reach b cs

reach_dot : (b : ℕ) (cs xs : List ℤ) → All (IsUpTo b) xs → IsUpTo (form_reach b cs) (dot cs xs)
unfolding form_reach
reach_dot b [] xs h = omega (arith, linear)
reach_dot b (c ∷ cs) [] h = omega (arith, linear)
reach_dot b (c ∷ cs) (x ∷ xs) h =
    up_to-sum (unsigned_abs c * b) (form_reach b cs) (c *ℤ x) (dot cs xs)
    (up_to-product (unsigned_abs c) b c x (omega arith) (All-head (IsUpTo b) x xs h)) (reach_dot b cs xs (All-tail (IsUpTo b) x xs h))

-- how far what stands beside a column goes, in one row and in all of them together
pub row_reach : ℕ → ℕ → Row → ℕ
row_reach b col r = form_reach b (remove r.coefs col) + unsigned_abs r.constant

pub rows_reach : ℕ → ℕ → List Row → ℕ
rows_reach b col [] = 0
rows_reach b col (r ∷ rows) = row_reach b col r + rows_reach b col rows

reach_rest : (b col : ℕ) (r : Row) (point : List ℤ) → All (IsUpTo b) point → IsUpTo (row_reach b col r) (rest_at r col point)
unfolding row_reach
reach_rest b col r point h = up_to-sum (form_reach b (remove r.coefs col)) (unsigned_abs r.constant)
    (dot (remove r.coefs col) point) r.constant (reach_dot b (remove r.coefs col) point h) (omega arith)

reach_among : (b col : ℕ) (rows : List Row) (i : ℕ) (d : Row) → i < length rows → row_reach b col (get_or rows i d) ≤ rows_reach b col rows
unfolding rows_reach
reach_among b col [] i d h = absurd (omega arith)
reach_among b col (r ∷ rows) zero d h = omega arith
reach_among b col (r ∷ rows) (suc i) d h = let t = reach_among b col rows i d (omega arith) in omega arith

pub closed_number : (columns col : ℕ) (rows : List Row) (point : List ℤ) (x : ℤ) (b : ℕ) → All (IsWellFormed columns) rows → col < columns
    → col ≤ length point
    → HasLowerEnd col rows → HasUpperEnd col rows → All (IsUpTo b) point → HoldRows rows (insert point col x)
    → IsUpTo (rows_reach b col rows) x
closed_number columns col rows point x b w h k low high u m =
    between x (row_reach b col (at low.0 low.1)) (row_reach b col (at high.0 high.1)) (rows_reach b col rows)
    (reach_among b col rows low.0 low.1 low.2) (reach_among b col rows high.0 high.1 high.2)
    (let r = at low.0 low.1 in low_number r.kind r.k (coef_at r col) x (rest_at r col point) (row_reach b col r) (rw low.3 low.4)
    (reach_rest b col r point u) (value low.0 low.1 low.2))
    (let r = at high.0 high.1 in high_number r.kind r.k (coef_at r col) x (rest_at r col point) (row_reach b col r) (rw high.3 high.4)
    (reach_rest b col r point u) (value high.0 high.1 high.2))
  where
    at : ℕ → Row → Row
    at i d = get_or rows i d

    value : (i : ℕ) (d : Row) → i < length rows → HoldsValue (get_or rows i d).kind (get_or rows i d).k
        (coef_at (get_or rows i d) col *ℤ x +ℤ rest_at (get_or rows i d) col point)
    value i d n = let e = value_at-insert (get_or rows i d) col point x (let l = (w i d n).width in omega (arith, l)) k in rw e at (m i d n)

    between : (x : ℤ) (p q n : ℕ) → p ≤ n → q ≤ n → neg_ℤ (pos p) ≤ℤ x → x ≤ℤ pos q → IsUpTo n x
    between x p q n i j l g = omega (arith, linear)
