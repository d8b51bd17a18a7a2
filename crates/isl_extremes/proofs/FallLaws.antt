-- A column without an end on a side goes on there for ever; one with an end is bounded there.
use Rattle.std.proofs.Common.{◌≡◌, ◌≢◌, inl, inr, refl, sym, subst, arith, ℕ, ◌+◌, ◌-◌, ℤ, pos, neg_ℤ, ◌+ℤ◌, ◌-ℤ◌, ◌*ℤ◌}
use Rattle.std.proofs.Common.{◌≤ℤ◌, ◌<ℤ◌, unsigned_abs, List, [], ◌∷◌, ◌++◌, length, get_or}
use Rattle.std.specs.List.{All, Any, insert}
use Rattle.std.proofs.lemmas.List.{get_or_default, length_push}
use Rattle.std.proofs.lemmas.List.Edits.{insert_end}
use Rattle.std.proofs.lemmas.List.Elements.{All-nil, All-cons, All-weaker}
use Rattle.isl_math.specs.Divide as divide
use Rattle.isl_math.proofs.Ring.{expand, linear}
use Rattle.isl_math.proofs.OrderLaws.{cases_ℤ, not_negative-*ℤ, ≤ℤ-*ℤ}
use Rattle.isl_math.proofs.DivideLaws.{Divides-neg_ℤ, Divides-*ℤ, Divides-same}
use Rattle.isl_math.proofs.MagnitudeLaws.{IsUpTo}
use Rattle.isl_meter.specs.Gauge.{Gauge}
use Rattle.isl_piece.specs.declared.row.RowKind.{RowKind}
use Rattle.isl_piece.specs.declared.row.RowKind.TheVariants.{Zero, AtLeast, Divides, NotDivides}
use Rattle.isl_piece.specs.declared.row.Row.{Row}
use Rattle.isl_piece.specs.declared.system.System.{System}
use Rattle.isl_piece.specs.Row.{HoldsValue, coef_at}
use Rattle.isl_piece.specs.System.{HoldsSystem, IsSystemWithin, free_columns}
use Rattle.isl_omega.specs.Column.{rest_at}
use Rattle.isl_omega.specs.Congruence.{product_of_divisors}
use Rattle.isl_omega.proofs.ColumnLemmas.{value_at-insert}
use Rattle.isl_omega.proofs.MergeLemmas.{product_positive}
use Rattle.isl_elim.proofs.ProjectionLaws.{plain_free, plain_holds}
use Rattle.isl_tower.specs.Ends.{EndsBelow, EndsAbove}
use Rattle.isl_tower.proofs.EndLaws.{Allows, rows_moved}
use Rattle.isl_blocks.specs.declared.cases.Direction.{Direction}
use Rattle.isl_blocks.specs.declared.cases.Direction.TheVariants.{Before, After}
use Rattle.isl_extremes.specs.Systems.{signed, HasEnd, IsClosedOn}
use Rattle.isl_extremes.proofs.NumberLaws.{high_number, low_number, reach_rest, row_reach}

-- ---- one row
abbrev EndsOn : Direction → RowKind → ℤ → Type 0
EndsOn Before kind c = EndsBelow kind c
EndsOn After kind c = EndsAbove kind c

zero_from : (c : ℤ) → ¬ (c ≢ pos 0) → c ≡ pos 0
zero_from c n = elim (cases_ℤ c (pos 0)) [
  | inl l ↦ absurd (n (λ e. omega (arith, linear)))
  | inr h ↦ elim h [
    | inl e ↦ e
    | inr g ↦ absurd (n (λ e. omega (arith, linear)))
  ]
]

-- a row without an end on the side allows steps that way
allowed : (d : Direction) (kind : RowKind) (k c m : ℤ) → ¬ EndsOn d kind c → pos 0 ≤ℤ m → divide.Divides k (signed d (neg_ℤ m))
    → Allows kind k c (signed d (neg_ℤ m))
allowed Before Zero k c m n l v = zero_from c n
allowed Before AtLeast k c m n l v =
    let p = simp expand at (not_negative-*ℤ (neg_ℤ c) m (omega (arith, linear)) l) in simp expand (omega (arith, linear))
allowed Before Divides k c m n l v = v
allowed Before NotDivides k c m n l v = v
allowed After Zero k c m n l v = zero_from c n
allowed After AtLeast k c m n l v =
    let p = simp expand at (not_negative-*ℤ c m (omega (arith, linear)) l) in simp expand (omega (arith, linear))
allowed After Divides k c m n l v = v
allowed After NotDivides k c m n l v = v

-- the modulus of each row divides their product
divide_product : (rows : List Row) → All (λ r. divide.Divides r.k (product_of_divisors rows)) rows
divide_product [] = All-nil (λ r. divide.Divides r.k (product_of_divisors []))
divide_product (r ∷ rows) =
    let p = product_of_divisors rows in
    All-cons (λ q. divide.Divides q.k (r.k *ℤ p)) r rows (record { quotient = p; is = refl })
    (All-weaker (λ q. divide.Divides q.k p) (λ q. divide.Divides q.k (r.k *ℤ p))
    (λ q m. Divides-same q.k (p *ℤ r.k) (r.k *ℤ p) (by p r.k) (Divides-*ℤ q.k p r.k m)) rows (divide_product rows))
  where
    by : (a b : ℤ) → a *ℤ b ≡ b *ℤ a
    by a b = simp expand (omega (arith, linear))

steps_divide : (d : Direction) (k m : ℤ) → divide.Divides k m → divide.Divides k (signed d (neg_ℤ m))
steps_divide Before k m v = Divides-neg_ℤ k m v
steps_divide After k m v = Divides-same k m (neg_ℤ (neg_ℤ m)) (omega (arith, linear)) v

-- ---- without an end
no_end : (d : Direction) (col : ℕ) (rows : List Row) → ¬ HasEnd d col rows → All (λ r. ¬ EndsOn d r.kind (coef_at r col)) rows
no_end Before col rows none = λ i e l end. none (i, get_or rows i e, l, get_or_default rows i (get_or rows i e) e l, end)
no_end After col rows none = λ i e l end. none (i, get_or rows i e, l, get_or_default rows i (get_or rows i e) e l, end)

multiple_large : (p m : ℤ) → pos 0 <ℤ p → pos 0 ≤ℤ m → m ≤ℤ (p *ℤ m)
multiple_large p m h l = let t = ≤ℤ-*ℤ m (pos 1) p l (omega (arith, linear)) in omega (arith, linear)

stepped : (d : Direction) (x b m : ℤ) → pos (unsigned_abs (signed d x -ℤ b) + 1) ≤ℤ m → signed d (x +ℤ signed d (neg_ℤ m)) <ℤ b
stepped Before x b m l = omega (arith, linear)
stepped After x b m l = omega (arith, linear)

-- numbers at the last column, as far to the side as is asked for
pub goes_on : (d : Direction) (g : Gauge) (t : System) → IsSystemWithin g t → t.definitions ≡ [] → ¬ HasEnd d (free_columns t - 1) t.rows
    → (q : List ℤ) (x b : ℤ) → length q + 1 ≡ free_columns t → HoldsSystem t (q ++ x ∷ [])
    → (y : ℤ) × (signed d y <ℤ b) × HoldsSystem t (q ++ y ∷ [])
goes_on d g t w plain none q x b l h =
    let free = plain_free t plain in
    let col : free_columns t - 1 ≡ length q = omega (arith, l) in
    let none' : ¬ HasEnd d (length q) t.rows = subst (λ c. ¬ HasEnd d c t.rows) col none in
    let rows = (plain_holds t (insert q (length q) x) plain).0 (subst (λ z. HoldsSystem t z) (sym (insert_end q x)) h) in
    let p = product_of_divisors t.rows in
    let n : ℤ = pos (unsigned_abs (signed d x -ℤ b) + 1) in
    let large = multiple_large p n (product_positive t.columns t.rows w.rows) (omega (arith, linear)) in
    let m = p *ℤ n in
    let step = signed d (neg_ℤ m) in
    let ends_not = no_end d (length q) t.rows none' in
    let allows : All (λ r. Allows r.kind r.k (coef_at r (length q)) step) t.rows = λ i e k.
    let r = get_or t.rows i e in
    allowed d r.kind r.k (coef_at r (length q)) m (ends_not i e k) (omega (arith, linear))
    (steps_divide d r.k m (Divides-*ℤ r.k p n (divide_product t.rows i e k))) in
    let there = rows_moved t.columns (length q) t.rows q x step w.rows (omega (arith, free, l)) (omega arith) allows rows in (
      x +ℤ step,
      stepped d x b m large,
      subst (λ z. HoldsSystem t z) (insert_end q (x +ℤ step)) ((plain_holds t (insert q (length q) (x +ℤ step)) plain).1 there),
    )

-- ---- with an end
-- the sum of magnitudes
total : List ℤ → ℕ
total [] = 0
total (x ∷ xs) = unsigned_abs x + total xs

total_up : (xs : List ℤ) → All (IsUpTo (total xs)) xs
unfolding total
total_up [] = All-nil (IsUpTo 0)
total_up (x ∷ xs) = All-cons (IsUpTo (unsigned_abs x + total xs)) x xs (omega arith)
    (λ j z y. let q = total_up xs j z y in omega (arith, q))

number_on : (d : Direction) (kind : RowKind) (k c x f : ℤ) (m : ℕ) → EndsOn d kind c → IsUpTo m f → HoldsValue kind k (c *ℤ x +ℤ f)
    → neg_ℤ (pos m) ≤ℤ signed d x
number_on Before kind k c x f m e u h = low_number kind k c x f m e u h
number_on After kind k c x f m e u h = let l = high_number kind k c x f m e u h in omega (arith, linear)

some_end : (d : Direction) (col : ℕ) (rows : List Row) → HasEnd d col rows → Any (λ r. EndsOn d r.kind (coef_at r col)) rows
some_end Before col rows end = end
some_end After col rows end = end

-- a number that bounds the last one on the side
pub bounded_on : (d : Direction) (g : Gauge) (t : System) → IsSystemWithin g t → t.definitions ≡ [] → IsClosedOn d t
    → (q : List ℤ) → length q + 1 ≡ free_columns t → (b : ℤ) × ((x : ℤ) → HoldsSystem t (q ++ x ∷ []) → b ≤ℤ signed d x)
bounded_on d g t w plain closed q l = elim closed [
  | inl end ↦
      let some = some_end d (length q) t.rows (subst (λ c. HasEnd d c t.rows) (omega (arith, l)) end) in
      let r = get_or t.rows some.0 some.1 in
      let reach = row_reach (total q) (length q) r in (
        neg_ℤ (pos reach),
        λ x h.
            let free = plain_free t plain in
            let rows = (plain_holds t (insert q (length q) x) plain).0 (subst (λ z. HoldsSystem t z) (sym (insert_end q x)) h) in
            let f = w.rows some.0 some.1 some.2 in
            let wide = f.width in
            let e = value_at-insert r (length q) q x (omega (arith, wide, free, l)) (omega arith) in
            number_on d r.kind r.k (coef_at r (length q)) x (rest_at r (length q) q) reach (rw some.3 some.4)
            (reach_rest (total q) (length q) r q (total_up q)) (rw e at (rows some.0 some.1 some.2)),
      )
  | inr nowhere ↦ (
    pos 0,
    λ x h. absurd (nowhere (q ++ x ∷ []) (let k = length_push q x in omega (arith, k, l)) h),
  )
]
