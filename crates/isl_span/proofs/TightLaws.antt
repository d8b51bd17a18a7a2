-- Of difference constraints with a point, a column that no equation names and on which no upper bound is tight: two points differ there
-- alone. Points stay such where one number is added to all columns and to the number that constants are compared with, and so does the
-- greater of two points at each column. (Miné, difference-bound matrices)
use Rattle.std.proofs.Common.{◌≡◌, ◌⊎◌, ◌∙◌, inl, inr, refl, sym, ap, subst, arith, ℕ, zero, suc, ◌+◌, ◌<◌, ◌≤◌}
use Rattle.std.proofs.Common.{ℤ, pos, negsuc, neg_ℤ, ◌+ℤ◌, ◌-ℤ◌, ◌*ℤ◌, ◌≤ℤ◌, ◌<ℤ◌}
use Rattle.std.proofs.Common.{List, [], ◌∷◌, length, map, get_or, set}
use Rattle.std.specs.List.{All}
use Rattle.std.proofs.lemmas.List.{get_or-map, get_or_default, get_or_past, length-map}
use Rattle.isl_math.specs.Dot.{dot}
use Rattle.isl_math.proofs.DotLaws.{dot-set}
use Rattle.isl_math.proofs.OrderLaws.{at_most_or_above}
use Rattle.isl_math.proofs.Ring.{expand, linear}
use Rattle.isl_ledger.specs.Difference.{one_at, IsComparison, IsDifferenceRow}
use Rattle.isl_ledger.proofs.ComparisonLaws.{coefficient_cases, one_apart, one_here, upper_second}
use Rattle.isl_piece.specs.declared.row.Row.{Row}
use Rattle.isl_piece.specs.declared.row.RowKind.{RowKind}
use Rattle.isl_piece.specs.declared.row.RowKind.TheVariants.{Zero, AtLeast}
use Rattle.isl_piece.specs.Row.{HoldsRow, HoldsValue, coef_at, value_at}
use Rattle.isl_piece.specs.System.{HoldRows}

-- ---- a comparison at a point: the number at the first place less that at the second, where a place behind stands for 0
abbrev from_place : ℕ → ℕ → List ℤ → ℤ
from_place i o [] = pos 0
from_place i o (x ∷ xs) = one_at i o *ℤ x +ℤ from_place i (suc o) xs

passed : (i o : ℕ) (xs : List ℤ) → i < o → from_place i o xs ≡ pos 0
passed i o [] l = refl
passed i o (x ∷ xs) l =
    by (one_at i o) (from_place i (suc o) xs) (one_apart i o (λ e. absurd (let f : o ≡ i = e in omega arith)))
    (passed i (suc o) xs (omega arith))
  where
    by : (a r : ℤ) → a ≡ pos 0 → r ≡ pos 0 → a *ℤ x +ℤ r ≡ pos 0
    by a r e f = let m = ap (λ w. w *ℤ x) e in omega (arith, linear, m, f)

reached : (i o : ℕ) (xs : List ℤ) → from_place (o + i) o xs ≡ get_or xs i (pos 0)
reached i o [] = sym (get_or_past [] i (pos 0) (omega arith))
reached zero o (x ∷ xs) =
    by (one_at (o + 0) o) (from_place (o + 0) (suc o) xs) (one_here (o + 0) o (omega arith)) (passed (o + 0) (suc o) xs (omega arith))
  where
    by : (a r : ℤ) → a ≡ pos 1 → r ≡ pos 0 → a *ℤ x +ℤ r ≡ x
    by a r e f = let m = ap (λ w. w *ℤ x) e in omega (arith, linear, m, f)
reached (suc i) o (x ∷ xs) =
    by (one_at (o + suc i) o) (from_place (o + suc i) (suc o) xs)
    (one_apart (o + suc i) o (λ e. absurd (let f : o ≡ o + suc i = e in omega arith)))
    (let e : o + suc i ≡ suc o + i = omega arith in ap (λ n. from_place n (suc o) xs) e ∙ reached i (suc o) xs)
  where
    by : (a r : ℤ) → a ≡ pos 0 → r ≡ get_or xs i (pos 0) → a *ℤ x +ℤ r ≡ get_or xs i (pos 0)
    by a r e f = let m = ap (λ w. w *ℤ x) e in omega (arith, linear, m, f)

places_dot : (i j o : ℕ) (cs xs : List ℤ) → length cs ≡ length xs
    → ((k : ℕ) → k < length cs → get_or cs k (pos 0) ≡ one_at i (o + k) -ℤ one_at j (o + k))
    → dot cs xs ≡ from_place i o xs -ℤ from_place j o xs
places_dot i j o [] [] long at = omega (arith, linear)
places_dot i j o [] (x ∷ xs) long at = absurd (omega (arith, long))
places_dot i j o (c ∷ cs) [] long at = absurd (omega (arith, long))
places_dot i j o (c ∷ cs) (x ∷ xs) long at =
    by (dot cs xs) (one_at i o) (one_at j o) (from_place i (suc o) xs) (from_place j (suc o) xs)
    (let e : o + 0 ≡ o = omega arith in at 0 (omega arith) ∙ ap (λ n. one_at i n -ℤ one_at j n) e)
    (places_dot i j (suc o) cs xs (omega (arith, long))
    (λ k low. let e : o + suc k ≡ suc o + k = omega arith in at (suc k) (omega arith) ∙ ap (λ n. one_at i n -ℤ one_at j n) e))
  where
    by : (d a b p q : ℤ) → c ≡ a -ℤ b → d ≡ p -ℤ q → c *ℤ x +ℤ d ≡ (a *ℤ x +ℤ p) -ℤ (b *ℤ x +ℤ q)
    by d a b p q e f = let m = simp expand at (ap (λ w. w *ℤ x) e) in simp expand (omega (arith, linear, m, f))

pub compared : (cs xs : List ℤ) (i j : ℕ) → IsComparison cs i j → length cs ≡ length xs
    → dot cs xs ≡ get_or xs i (pos 0) -ℤ get_or xs j (pos 0)
compared cs xs i j is long =
    by (dot cs xs) (from_place i 0 xs) (from_place j 0 xs)
    (places_dot i j 0 cs xs long (λ k low. let e : k ≡ 0 + k = omega arith in is.at k low ∙ ap (λ n. one_at i n -ℤ one_at j n) e))
    (let e : i ≡ 0 + i = omega arith in ap (λ n. from_place n 0 xs) e ∙ reached i 0 xs)
    (let e : j ≡ 0 + j = omega arith in ap (λ n. from_place n 0 xs) e ∙ reached j 0 xs)
  where
    by : (d p q : ℤ) → d ≡ p -ℤ q → p ≡ get_or xs i (pos 0) → q ≡ get_or xs j (pos 0)
        → d ≡ get_or xs i (pos 0) -ℤ get_or xs j (pos 0)
    by d p q e f g = omega (arith, linear, e, f, g)

-- ---- a point less a number at each column: there the constant is compared with this number
abbrev lowered : ℤ → List ℤ → List ℤ
lowered z xs = map (λ x. x -ℤ z) xs

lowered_at : (z : ℤ) (xs : List ℤ) (k : ℕ) → get_or (lowered z xs) k (pos 0) ≡ get_or xs k z -ℤ z
lowered_at z [] k = get_or_past [] k (pos 0) (omega arith) ∙ by (get_or [] k z) (get_or_past [] k z (omega arith))
  where
    by : (y : ℤ) → y ≡ z → pos 0 ≡ y -ℤ z
    by y e = omega (arith, linear, e)
lowered_at z (x ∷ xs) zero = refl
lowered_at z (x ∷ xs) (suc k) = lowered_at z xs k

lowered_value : (b : ℕ) (r : Row) (d : IsDifferenceRow b r) (z : ℤ) (xs : List ℤ) → length r.coefs ≡ length xs
    → value_at r (lowered z xs) ≡ get_or xs d.first z -ℤ get_or xs d.second z +ℤ r.constant
lowered_value b r d z xs long =
    by (dot r.coefs (lowered z xs)) (get_or (lowered z xs) d.first (pos 0)) (get_or (lowered z xs) d.second (pos 0)) (get_or xs d.first z)
    (get_or xs d.second z)
    (compared r.coefs (lowered z xs) d.first d.second d.compares (long ∙ sym (length-map xs (λ x. x -ℤ z))))
    (lowered_at z xs d.first) (lowered_at z xs d.second)
  where
    by : (v p q x y : ℤ) → v ≡ p -ℤ q → p ≡ x -ℤ z → q ≡ y -ℤ z → v +ℤ r.constant ≡ x -ℤ y +ℤ r.constant
    by v p q x y e f g = omega (arith, linear, e, f, g)

-- ---- the greater of two numbers at each place
record IsGreater (m x y : ℤ) : Type 0 where
  first : x ≤ℤ m
  second : y ≤ℤ m
  one : (m ≡ x) ⊎ (m ≡ y)

greater : (x y : ℤ) → (m : ℤ) × IsGreater m x y
greater x y = elim (at_most_or_above x y) [
  | inl l ↦ (y, record { first = l; second = omega (arith, linear); one = inr refl })
  | inr l ↦ (x, record { first = omega (arith, linear); second = by l; one = inl refl })
]
  where
    by : y <ℤ x → y ≤ℤ x
    by l = omega (arith, linear, l)

record AreGreater (ms xs ys : List ℤ) : Type 0 where
  long : length ms ≡ length xs
  at : (k : ℕ) (m z w : ℤ) → IsGreater m z w → IsGreater (get_or ms k m) (get_or xs k z) (get_or ys k w)

greater_all : (xs ys : List ℤ) → length xs ≡ length ys → (ms : List ℤ) × AreGreater ms xs ys
greater_all [] [] e = (
  [],
  record {
    long = refl;
    at = λ k m z w g. subst (λ (o : ℤ). IsGreater o (get_or [] k z) (get_or [] k w)) (sym (get_or_past [] k m (omega arith)))
        (subst (λ (o : ℤ). IsGreater m o (get_or [] k w)) (sym (get_or_past [] k z (omega arith)))
        (subst (λ (o : ℤ). IsGreater m z o) (sym (get_or_past [] k w (omega arith))) g));
  },
)
greater_all [] (y ∷ ys) e = absurd (omega (arith, e))
greater_all (x ∷ xs) [] e = absurd (omega (arith, e))
greater_all (x ∷ xs) (y ∷ ys) e =
    let one = greater x y in
    let rest = greater_all xs ys (omega (arith, e)) in
    (one.0 ∷ rest.0, record { long = ap suc rest.1.long; at = by one rest })
  where
    by : (one : (m : ℤ) × IsGreater m x y) (rest : (ms : List ℤ) × AreGreater ms xs ys) (k : ℕ) (m z w : ℤ) → IsGreater m z w
        → IsGreater (get_or (one.0 ∷ rest.0) k m) (get_or (x ∷ xs) k z) (get_or (y ∷ ys) k w)
    by one rest zero m z w g = one.1
    by one rest (suc k) m z w g = rest.1.at k m z w g

-- a comparison at the greater numbers is at least what it is at those from which the second number is
greater_least : (c m l x y u v : ℤ) → IsGreater m x y → IsGreater l u v → (t : ℤ)
    → t ≤ℤ (x -ℤ u +ℤ c) → t ≤ℤ (y -ℤ v +ℤ c) → t ≤ℤ (m -ℤ l +ℤ c)
greater_least c m l x y u v f s t a b =
    let p = f.first in
    let q = f.second in
    elim s.one [ inl e ↦ omega (arith, linear, p, e, a) | inr e ↦ omega (arith, linear, q, e, b) ]

-- and at most what it is at those from which the first number is
greater_most : (c m l x y u v : ℤ) → IsGreater m x y → IsGreater l u v → (t : ℤ)
    → (x -ℤ u +ℤ c) ≤ℤ t → (y -ℤ v +ℤ c) ≤ℤ t → (m -ℤ l +ℤ c) ≤ℤ t
greater_most c m l x y u v f s t a b =
    let p = s.first in
    let q = s.second in
    elim f.one [ inl e ↦ omega (arith, linear, p, e, a) | inr e ↦ omega (arith, linear, q, e, b) ]

-- ---- points at which upper bounds on the last column are not tight
module _ (bits n : ℕ) (rows : List Row) (wide : All (λ r. length r.coefs ≡ n + 1) rows) (compare : All (IsDifferenceRow bits) rows) where
  -- the row bounds the last column from above
  abbrev pub IsUpper : Row → Type 0
  IsUpper r = (r.kind ≡ AtLeast) × (coef_at r n ≡ negsuc 0)

  -- numbers that are a point once one number is taken from each, with 0 at the last column; where the rows of some places are upper bounds,
  -- they are at least 1 there
  record IsLoose (Some : ℕ → Type 0) (xs : List ℤ) (z : ℤ) : Type 0 where
    long : length xs ≡ n + 1
    nought : get_or xs n z ≡ pos 0
    holds : HoldRows rows (lowered z xs)
    loose : (k : ℕ) (d : Row) → k < length rows → Some k → IsUpper (get_or rows k d) → pos 1 ≤ℤ value_at (get_or rows k d) (lowered z xs)

  value_of : (k : ℕ) (d : Row) (low : k < length rows) (xs : List ℤ) (z : ℤ) → length xs ≡ n + 1
      → value_at (get_or rows k d) (lowered z xs)
      ≡ get_or xs (compare k d low).first z -ℤ get_or xs (compare k d low).second z +ℤ (get_or rows k d).constant
  value_of k d low xs z long = lowered_value bits (get_or rows k d) (compare k d low) z xs (wide k d low ∙ sym long)

  -- an upper bound on the last column compares it with another one
  upper_at : (k : ℕ) (d : Row) (low : k < length rows) → IsUpper (get_or rows k d) → n ≡ (compare k d low).second
  upper_at k d low upper =
      let r = get_or rows k d in
      upper_second r.coefs (compare k d low).first (compare k d low).second n (compare k d low).compares
      (let w = wide k d low in omega (arith, w)) (below (coef_at r n) upper.1)
    where
      below : (z : ℤ) → z ≡ negsuc 0 → z <ℤ pos 0
      below z e = omega (arith, linear, e)

  -- two such points have one that is at least as great at each column
  module _ (Some More : ℕ → Type 0) (xs ys : List ℤ) (z w : ℤ) (a : IsLoose Some xs z) (b : IsLoose More ys w) (ms : List ℤ) (m : ℤ)
      (all : AreGreater ms xs ys) (one : IsGreater m z w) where
    long : length ms ≡ n + 1
    long = all.long ∙ a.long

    nought : get_or ms n m ≡ pos 0
    nought = by (get_or ms n m) (get_or xs n z) (get_or ys n w) (all.at n m z w one) a.nought b.nought
      where
        by : (m x y : ℤ) → IsGreater m x y → x ≡ pos 0 → y ≡ pos 0 → m ≡ pos 0
        by m x y g e f = elim g.one [ inl i ↦ i ∙ e | inr i ↦ i ∙ f ]

    least : (k : ℕ) (d : Row) → k < length rows → (t : ℤ) → t ≤ℤ value_at (get_or rows k d) (lowered z xs)
        → t ≤ℤ value_at (get_or rows k d) (lowered w ys) → t ≤ℤ value_at (get_or rows k d) (lowered m ms)
    least k d low t over also =
        let c = compare k d low in
        rw (value_of k d low ms m long) (greater_least (get_or rows k d).constant (get_or ms c.first m) (get_or ms c.second m)
        (get_or xs c.first z) (get_or ys c.first w) (get_or xs c.second z) (get_or ys c.second w) (all.at c.first m z w one)
        (all.at c.second m z w one) t (rw (value_of k d low xs z a.long) at over) (rw (value_of k d low ys w b.long) at also))

    most : (k : ℕ) (d : Row) → k < length rows → (t : ℤ) → value_at (get_or rows k d) (lowered z xs) ≤ℤ t
        → value_at (get_or rows k d) (lowered w ys) ≤ℤ t → value_at (get_or rows k d) (lowered m ms) ≤ℤ t
    most k d low t under also =
        let c = compare k d low in
        rw (value_of k d low ms m long) (greater_most (get_or rows k d).constant (get_or ms c.first m) (get_or ms c.second m)
        (get_or xs c.first z) (get_or ys c.first w) (get_or xs c.second z) (get_or ys c.second w) (all.at c.first m z w one)
        (all.at c.second m z w one) t (rw (value_of k d low xs z a.long) at under) (rw (value_of k d low ys w b.long) at also))

    of_kind : (r : Row) (kind : RowKind) → r.kind ≡ kind → (x : List ℤ) → HoldsRow r x → HoldsValue kind r.k (value_at r x)
    of_kind r kind is x h = subst (λ (k : RowKind). HoldsValue k r.k (value_at r x)) is h

    hold : HoldRows rows (lowered m ms)
    hold k d low =
        let r = get_or rows k d in
        let p = a.holds k d low in
        let q = b.holds k d low in
        elim (compare k d low).kind [
          | inl equal ↦ subst (λ (kind : RowKind). HoldsValue kind r.k (value_at r (lowered m ms))) (sym equal)
              (both (value_at r (lowered m ms))
              (least k d low (pos 0) (from (value_at r (lowered z xs)) (of_kind r Zero equal (lowered z xs) p))
              (from (value_at r (lowered w ys)) (of_kind r Zero equal (lowered w ys) q)))
              (most k d low (pos 0) (upto (value_at r (lowered z xs)) (of_kind r Zero equal (lowered z xs) p))
              (upto (value_at r (lowered w ys)) (of_kind r Zero equal (lowered w ys) q))))
          | inr bound ↦ subst (λ (kind : RowKind). HoldsValue kind r.k (value_at r (lowered m ms))) (sym bound)
              (least k d low (pos 0) (of_kind r AtLeast bound (lowered z xs) p) (of_kind r AtLeast bound (lowered w ys) q))
        ]
      where
        from : (v : ℤ) → v ≡ pos 0 → pos 0 ≤ℤ v
        from v e = omega (arith, linear, e)

        upto : (v : ℤ) → v ≡ pos 0 → v ≤ℤ pos 0
        upto v e = omega (arith, linear, e)

        both : (v : ℤ) → pos 0 ≤ℤ v → v ≤ℤ pos 0 → v ≡ pos 0
        both v l h = omega (arith, linear, l, h)

    joined : IsLoose (λ k. Some k ⊎ More k) ms m
    joined = record {
      long = long;
      nought = nought;
      holds = hold;
      loose = λ k d low which upper.
          let c = compare k d low in
          let r = get_or rows k d in
          let here : (xs : List ℤ) (z : ℤ) → get_or xs n z ≡ pos 0 → get_or xs c.second z ≡ pos 0 =
          λ xs z e. subst (λ (i : ℕ). get_or xs i z ≡ pos 0) (upper_at k d low upper) e in
          elim which [
            | inl s ↦ by (value_at r (lowered m ms)) (value_at r (lowered z xs)) (get_or ms c.first m) (get_or ms c.second m)
                (get_or xs c.first z) (get_or xs c.second z) r.constant (value_of k d low ms m long) (value_of k d low xs z a.long)
                (all.at c.first m z w one).first (here ms m nought) (here xs z a.nought) (a.loose k d low s upper)
            | inr s ↦ by (value_at r (lowered m ms)) (value_at r (lowered w ys)) (get_or ms c.first m) (get_or ms c.second m)
                (get_or ys c.first w) (get_or ys c.second w) r.constant (value_of k d low ms m long) (value_of k d low ys w b.long)
                (all.at c.first m z w one).second (here ms m nought) (here ys w b.nought) (b.loose k d low s upper)
          ];
    }
      where
        by : (v u f s g t c : ℤ) → v ≡ f -ℤ s +ℤ c → u ≡ g -ℤ t +ℤ c → g ≤ℤ f → s ≡ pos 0 → t ≡ pos 0 → pos 1 ≤ℤ u → pos 1 ≤ℤ v
        by v u f s g t c h i l e j o = omega (arith, linear, h, i, l, e, j, o)

  -- a point, lowered so that the last column is 0
  lowered_back : (y : ℤ) (xs : List ℤ) → lowered (neg_ℤ y) (lowered y xs) ≡ xs
  lowered_back y [] = refl
  lowered_back y (x ∷ xs) = ap (λ v. v ∷ lowered (neg_ℤ y) (lowered y xs)) (by x) ∙ ap (λ l. x ∷ l) (lowered_back y xs)
    where
      by : (x : ℤ) → x -ℤ y -ℤ neg_ℤ y ≡ x
      by x = omega (arith, linear)

  point_loose : (Some : ℕ → Type 0) (p : List ℤ) → length p ≡ n + 1 → HoldRows rows p
      → ((k : ℕ) (d : Row) → k < length rows → Some k → IsUpper (get_or rows k d) → pos 1 ≤ℤ value_at (get_or rows k d) p)
      → IsLoose Some (lowered (get_or p n (pos 0)) p) (neg_ℤ (get_or p n (pos 0)))
  point_loose Some p long holds loose =
      let y = get_or p n (pos 0) in
      let back = lowered_back y p in
      record {
        long = length-map p (λ x. x -ℤ y) ∙ long;
        nought = get_or-map (λ x. x -ℤ y) p n (pos 0) (neg_ℤ y) (omega (arith, long)) ∙ by y;
        holds = subst (HoldRows rows) (sym back) holds;
        loose = λ k d low s upper. subst (λ (q : List ℤ). pos 1 ≤ℤ value_at (get_or rows k d) q) (sym back) (loose k d low s upper);
      }
    where
      by : (y : ℤ) → y -ℤ y ≡ pos 0
      by y = omega (arith, linear)

  -- ---- all upper bounds together
  module _ (some : ¬ ((p : List ℤ) → length p ≡ n + 1 → ¬ HoldRows rows p))
      (each : (k : ℕ) (d : Row) → k < length rows → IsUpper (get_or rows k d)
      → ¬ ((p : List ℤ) → length p ≡ n + 1 → ¬ (HoldRows rows p × (pos 1 ≤ℤ value_at (get_or rows k d) p)))) where
    loose_below : (i : ℕ) → i ≤ length rows → ¬ ((xs : List ℤ) (z : ℤ) → ¬ IsLoose (λ k. k < i) xs z)
    loose_below zero room none = some (λ p long holds.
        none (lowered (get_or p n (pos 0)) p) (neg_ℤ (get_or p n (pos 0)))
        (point_loose (λ k. k < 0) p long holds (λ k d low s upper. absurd (omega arith))))
    loose_below (suc i) room none = loose_below i (omega arith) (λ xs z a.
        let not_upper : (d : Row) → ¬ IsUpper (get_or rows i d) = λ d upper. each i d (omega arith) upper (λ p long h.
        let y = get_or p n (pos 0) in
        let b = point_loose (λ k. k ≡ i) p long h.0 (λ k e low s up.
        subst (λ (r : Row). pos 1 ≤ℤ value_at r p) (ap (λ j. get_or rows j d) (sym s) ∙ get_or_default rows k d e low) h.1) in
        let ms = greater_all xs (lowered y p) (a.long ∙ sym b.long) in
        let m = greater z (neg_ℤ y) in
        let both = joined (λ k. k < i) (λ k. k ≡ i) xs (lowered y p) z (neg_ℤ y) a b ms.0 m.0 ms.1 m.1 in
        none ms.0 m.0 (record {
          long = both.long;
          nought = both.nought;
          holds = both.holds;
          loose = λ k e low s up. both.loose k e low (which k i s) up;
        })) in
        none xs z (record {
          long = a.long;
          nought = a.nought;
          holds = a.holds;
          loose = λ k e low s up. elim (which k i s) [
            | inl l ↦ a.loose k e low l up
            | inr same ↦ absurd (not_upper e (subst (λ (j : ℕ). IsUpper (get_or rows j e)) same up))
          ];
        }))
      where
        which : (k i : ℕ) → k < suc i → (k < i) ⊎ (k ≡ i)
        which k i s = grind arith

    -- where no equation names the last column, there are two points that differ there alone
    pub free_loose : ((k : ℕ) (d : Row) → k < length rows → (get_or rows k d).kind ≡ Zero → coef_at (get_or rows k d) n ≡ pos 0)
        → ¬ ((p : List ℤ) → length p ≡ n + 1 → ¬ (HoldRows rows p × HoldRows rows (set p n (get_or p n (pos 0) +ℤ pos 1))))
    free_loose unnamed none = loose_below (length rows) (omega arith) (λ xs z a.
        let p = lowered z xs in
        let long : length p ≡ n + 1 = lowered_long z xs ∙ a.long in
        none p long (a.holds, moved p long a.holds (λ k d low upper. a.loose k d low low upper)))
      where
        lowered_long : (z : ℤ) (xs : List ℤ) → length (lowered z xs) ≡ length xs
        lowered_long z xs = length-map xs (λ x. x -ℤ z)

        moved : (p : List ℤ) → length p ≡ n + 1 → HoldRows rows p
            → ((k : ℕ) (d : Row) → k < length rows → IsUpper (get_or rows k d) → pos 1 ≤ℤ value_at (get_or rows k d) p)
            → HoldRows rows (set p n (get_or p n (pos 0) +ℤ pos 1))
        moved p long holds loose k d low =
            let r = get_or rows k d in
            let c = compare k d low in
            let y = get_or p n (pos 0) in
            let step = plus (dot r.coefs (set p n (y +ℤ pos 1))) (dot r.coefs p) (coef_at r n) y r.constant
            (dot-set r.coefs p n (y +ℤ pos 1) (omega (arith, long))) in
            elim c.kind [
              | inl equal ↦ subst (λ (kind : RowKind). HoldsValue kind r.k (value_at r (set p n (y +ℤ pos 1)))) (sym equal)
                  (stays (value_at r (set p n (y +ℤ pos 1))) (value_at r p) (coef_at r n) step (unnamed k d low equal)
                  (subst (λ (kind : RowKind). HoldsValue kind r.k (value_at r p)) equal (holds k d low)))
              | inr bound ↦ subst (λ (kind : RowKind). HoldsValue kind r.k (value_at r (set p n (y +ℤ pos 1)))) (sym bound)
                  (elim (coefficient_cases r.coefs c.first c.second n c.compares (let w = wide k d low in omega (arith, w))) [
                    | inl one ↦ up (value_at r (set p n (y +ℤ pos 1))) (value_at r p) (coef_at r n) step one.1
                        (subst (λ (kind : RowKind). HoldsValue kind r.k (value_at r p)) bound (holds k d low))
                    | inr rest ↦ elim rest [
                      | inl minus ↦ down (value_at r (set p n (y +ℤ pos 1))) (value_at r p) (coef_at r n) step minus.1
                          (loose k d low (bound, minus.1))
                      | inr none ↦ same (value_at r (set p n (y +ℤ pos 1))) (value_at r p) (coef_at r n) step none
                          (subst (λ (kind : RowKind). HoldsValue kind r.k (value_at r p)) bound (holds k d low))
                    ]
                  ])
            ]
          where
            plus : (e d a y c : ℤ) → e ≡ d +ℤ a *ℤ (y +ℤ pos 1 -ℤ y) → e +ℤ c ≡ d +ℤ c +ℤ a
            plus e d a y c h = let m = simp expand at h in simp expand (omega (arith, linear, m))

            stays : (v u a : ℤ) → v ≡ u +ℤ a → a ≡ pos 0 → u ≡ pos 0 → v ≡ pos 0
            stays v u a h e f = omega (arith, linear, h, e, f)

            up : (v u a : ℤ) → v ≡ u +ℤ a → a ≡ pos 1 → pos 0 ≤ℤ u → pos 0 ≤ℤ v
            up v u a h e f = omega (arith, linear, h, e, f)

            down : (v u a : ℤ) → v ≡ u +ℤ a → a ≡ negsuc 0 → pos 1 ≤ℤ u → pos 0 ≤ℤ v
            down v u a h e f = omega (arith, linear, h, e, f)

            same : (v u a : ℤ) → v ≡ u +ℤ a → a ≡ pos 0 → pos 0 ≤ℤ u → pos 0 ≤ℤ v
            same v u a h e f = omega (arith, linear, h, e, f)
