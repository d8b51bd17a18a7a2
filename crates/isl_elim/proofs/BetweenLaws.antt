-- The number at one column that an equality and bounds tell.
use Rattle.std.proofs.Common.{◌≡◌, ◌≢◌, ◌⊎◌, inl, inr, refl, sym, ap, ◌∙◌, subst, arith, ℕ, zero, suc, ◌+◌, ◌*◌, ◌-◌, ◌<◌, ◌≤◌, ◌^◌}
use Rattle.std.proofs.Common.{ℤ, pos, negsuc, neg_ℤ, ◌≤ℤ◌, ◌<ℤ◌, ◌+ℤ◌, ◌-ℤ◌, ◌*ℤ◌, unsigned_abs, List, [], ◌∷◌, length, get_or, set, take, Option, Some, None, IfSome}
use Rattle.std.specs.Prelude.{MatchOption}
use Rattle.std.specs.List.{All}
use Rattle.isl_math.proofs.Ring.{expand, linear}
use Rattle.isl_piece.specs.declared.row.RowKind.TheVariants.{Zero, AtLeast}
use Rattle.isl_elim.specs.declared.between.Bounds.{Bounds}
use Rattle.std.proofs.Common.{to_z-of_z, take_all}
use Rattle.std.proofs.lemmas.List.{get_or_read, get_or_default, take_more}
use Rattle.std.proofs.lemmas.List.Elements.{All-more}
use Rattle.isl_math.specs.Dot.{dot}
use Rattle.std.proofs.lemmas.Nat.{pow_pos}
use Rattle.isl_math.proofs.DotLaws.{dot-set, dot-take_more}
use Rattle.isl_math.proofs.ListLaws.{All-last}
use Rattle.isl_math.proofs.MagnitudeLaws.{up_to-product}
use Rattle.isl_meter.specs.Gauge.{Gauge, IsWithin}
use Rattle.isl_piece.specs.declared.row.Row.{Row}
use Rattle.isl_piece.specs.Row.{HoldsValue, HoldsRow, FormPassesLimit, coef_at, value_at}
use Rattle.isl_piece.specs.System.{HoldRows}
use Rattle.isl_ledger.specs.Difference.{IsDifferenceRow, IsComparison, one_at}
use Rattle.isl_ledger.proofs.ComparisonLaws.{one_cases, coefficient_cases, coefficient_small}
use Rattle.isl_elim.specs.Between.{IsInside, Serves, AreUpTo, IsMetBy, IsUnitBound, IsBest, AreSmallAt, SumPassesLimit}

pub ruleset value_steps = (to_z-of_z, dot-take_more, get_or_read)

-- ---- an equality
exact_serves : (exact least greatest : Option ℤ) (x y : ℤ) → IfSome exact (λ e. y ≡ e) → IfSome least (λ l. l ≤ℤ y) → IfSome greatest (λ u. y ≤ℤ u)
    → x ≡ y → MatchOption exact (IfSome least (λ l. l ≤ℤ x) × IfSome greatest (λ u. x ≤ℤ u)) (λ e. x ≡ y)
exact_serves None least greatest x y a b c e = rw e (b, c)
exact_serves (Some z) least greatest x y a b c e = e

pub exact_met : (b : Bounds) (number value e : ℤ) → ((y : ℤ) → value +ℤ number *ℤ y ≡ pos 0 → y ≡ e) → unsigned_abs e ≤ unsigned_abs value
    → IsMetBy Zero number value b (record b { exact = Some e })
exact_met b number value e only small = record {
  inside = λ k y i h. record { exact = only y h; least = i.least; greatest = i.greatest };
  serves = λ k x y i h s.
      let same : x ≡ y = s.serves in (
        record { serves = exact_serves b.exact b.least b.greatest x y i.exact i.least i.greatest same },
        rw same h,
      );
  small = λ w few u. record { exact = omega arith; least = u.least; greatest = u.greatest };
}

-- ---- bounds
least_serves : (exact least greatest : Option ℤ) (l x y : ℤ) → IfSome least (λ m. m ≤ℤ l)
    → MatchOption exact ((l ≤ℤ x) × IfSome greatest (λ u. x ≤ℤ u)) (λ e. x ≡ y)
    → MatchOption exact (IfSome least (λ m. m ≤ℤ x) × IfSome greatest (λ u. x ≤ℤ u)) (λ e. x ≡ y)
least_serves (Some e) least greatest l x y o s = s
least_serves None None greatest l x y o s = (tt, s.1)
least_serves None (Some m) greatest l x y o s = (let a = s.0 in omega (arith, linear), s.1)

greatest_serves : (exact least greatest : Option ℤ) (g x y : ℤ) → IfSome greatest (λ m. g ≤ℤ m)
    → MatchOption exact (IfSome least (λ m. m ≤ℤ x) × (x ≤ℤ g)) (λ e. x ≡ y)
    → MatchOption exact (IfSome least (λ m. m ≤ℤ x) × IfSome greatest (λ u. x ≤ℤ u)) (λ e. x ≡ y)
greatest_serves (Some e) least greatest g x y o s = s
greatest_serves None least None g x y o s = (s.0, tt)
greatest_serves None least (Some m) g x y o s = (s.0, let a = s.1 in omega (arith, linear))

-- one of a bound, if it is there, and another number
abbrev pub IsEither : Option ℤ → ℤ → ℤ → Type 0
IsEither old new z = MatchOption old (z ≡ new) (λ bound. (z ≡ bound) ⊎ (z ≡ new))

least_inside : (old : Option ℤ) (new z y : ℤ) → IsEither old new z → IfSome old (λ l. l ≤ℤ y) → new ≤ℤ y → z ≤ℤ y
least_inside None new z y e o n = omega (arith, linear)
least_inside (Some m) new z y (inl e) o n = omega (arith, linear)
least_inside (Some m) new z y (inr e) o n = omega (arith, linear)

greatest_inside : (old : Option ℤ) (new z y : ℤ) → IsEither old new z → IfSome old (λ u. y ≤ℤ u) → y ≤ℤ new → y ≤ℤ z
greatest_inside None new z y e o n = omega (arith, linear)
greatest_inside (Some m) new z y (inl e) o n = omega (arith, linear)
greatest_inside (Some m) new z y (inr e) o n = omega (arith, linear)

either_small : (old : Option ℤ) (new z : ℤ) (w : ℕ) → IsEither old new z → IfSome old (λ l. unsigned_abs l ≤ w) → unsigned_abs new ≤ w
    → unsigned_abs z ≤ w
either_small None new z w e o n = rw e n
either_small (Some m) new z w (inl e) o n = rw e o
either_small (Some m) new z w (inr e) o n = rw e n

-- a lower bound that holds at y, and at x where x is one that serves
lower_holds : (exact greatest : Option ℤ) (l value x y : ℤ) → neg_ℤ value ≤ℤ l → pos 0 ≤ℤ (value +ℤ pos 1 *ℤ y)
    → MatchOption exact ((l ≤ℤ x) × IfSome greatest (λ u. x ≤ℤ u)) (λ e. x ≡ y) → pos 0 ≤ℤ (value +ℤ pos 1 *ℤ x)
lower_holds (Some e) greatest l value x y n h s = rw s h
lower_holds None greatest l value x y n h s = let a = s.0 in omega (arith, linear)

upper_holds : (exact least : Option ℤ) (u value x y : ℤ) → u ≤ℤ value → pos 0 ≤ℤ (value +ℤ negsuc 0 *ℤ y)
    → MatchOption exact (IfSome least (λ m. m ≤ℤ x) × (x ≤ℤ u)) (λ e. x ≡ y) → pos 0 ≤ℤ (value +ℤ negsuc 0 *ℤ x)
upper_holds (Some e) least u value x y n h s = rw s h
upper_holds None least u value x y n h s = let a = s.1 in omega (arith, linear)

pub least_met : (b : Bounds) (value new l : ℤ) → new ≡ neg_ℤ value → new ≤ℤ l → IfSome b.least (λ m. m ≤ℤ l) → IsEither b.least new l
    → IsMetBy AtLeast (pos 1) value b (record b { least = Some l })
least_met b value new l is above old either = record {
  inside = λ k y i h. record {
    exact = i.exact;
    least = least_inside b.least new l y either i.least (omega (arith, linear));
    greatest = i.greatest;
  };
  serves = λ k x y i h s. (
    record { serves = least_serves b.exact b.least b.greatest l x y old s.serves },
    lower_holds b.exact b.greatest l value x y (omega (arith, linear)) h s.serves,
  );
  small = λ w few u. record {
    exact = u.exact;
    least = either_small b.least new l w either u.least (let n = is in omega (arith, linear));
    greatest = u.greatest;
  };
}

pub greatest_met : (b : Bounds) (value u : ℤ) → u ≤ℤ value → IfSome b.greatest (λ m. u ≤ℤ m) → IsEither b.greatest value u
    → IsMetBy AtLeast (negsuc 0) value b (record b { greatest = Some u })
greatest_met b value u below old either = record {
  inside = λ k y i h. record {
    exact = i.exact;
    least = i.least;
    greatest = greatest_inside b.greatest value u y either i.greatest (omega (arith, linear));
  };
  serves = λ k x y i h s. (
    record { serves = greatest_serves b.exact b.least b.greatest u x y old s.serves },
    upper_holds b.exact b.least u value x y below h s.serves,
  );
  small = λ w few v. record {
    exact = v.exact;
    least = v.least;
    greatest = either_small b.greatest value u w either v.greatest few;
  };
}

-- ---- the number that is taken
abbrev pub IsTakenOf : Option ℤ → Option ℤ → Option ℤ → ℤ → Type 0
IsTakenOf exact least greatest x =
    MatchOption exact (MatchOption least (MatchOption greatest (x ≡ pos 0) (λ u. x ≡ u)) (λ l. x ≡ l)) (λ e. x ≡ e)

pub number_serves : (exact least greatest : Option ℤ) (x y : ℤ)
    → IsTakenOf exact least greatest x
    → IfSome exact (λ e. y ≡ e) → IfSome least (λ l. l ≤ℤ y) → IfSome greatest (λ u. y ≤ℤ u)
    → MatchOption exact (IfSome least (λ l. l ≤ℤ x) × IfSome greatest (λ u. x ≤ℤ u)) (λ e. x ≡ y)
number_serves (Some e) least greatest x y t a b c = t ∙ sym a
number_serves None (Some l) (Some u) x y t a b c = (omega (arith, linear), omega (arith, linear))
number_serves None (Some l) None x y t a b c = (omega (arith, linear), tt)
number_serves None None (Some u) x y t a b c = (tt, omega (arith, linear))
number_serves None None None x y t a b c = (tt, tt)

pub number_small : (exact least greatest : Option ℤ) (x : ℤ) (w : ℕ)
    → IsTakenOf exact least greatest x
    → IfSome exact (λ e. unsigned_abs e ≤ w) → IfSome least (λ l. unsigned_abs l ≤ w) → IfSome greatest (λ u. unsigned_abs u ≤ w)
    → unsigned_abs x ≤ w
number_small (Some e) least greatest x w t a b c = rw t a
number_small None (Some l) greatest x w t a b c = rw t b
number_small None None (Some u) x w t a b c = rw t c
number_small None None None x w t a b c = let z = ap (λ (v : ℤ). unsigned_abs v) t in omega (arith, linear)

-- ---- difference constraints at a point
-- what column i adds to the first k products: its number, once it was reached
IsPart : List ℤ → ℕ → ℕ → ℤ → Type 0
IsPart xs i k p = ((i < k) × (p ≡ get_or xs i (pos 0))) ⊎ ((k ≤ i) × (p ≡ pos 0))

part_next : (xs : List ℤ) (i k : ℕ) (p : ℤ) → IsPart xs i k p → IsPart xs i (k + 1) (p +ℤ one_at i k *ℤ get_or xs k (pos 0))
unfolding IsPart
part_next xs i k p part = elim (one_cases i k) [
  | inl a ↦ elim part [
    | inl b ↦ absurd (let e = a.0 in omega (arith, b.0))
    | inr b ↦ inl ((let e = a.0 in omega arith), (let f = ap (λ c. get_or xs c (pos 0)) a.0 in let z = b.1 in rw a.1 (omega (arith, linear))))
  ]
  | inr a ↦ elim part [
    | inl b ↦ inl ((let l = b.0 in omega arith), (let z = b.1 in rw a.1 (omega (arith, linear))))
    | inr b ↦ inr ((let n = a.0 in let l = b.0 in grind arith), (let z = b.1 in rw a.1 (omega (arith, linear))))
  ]
]

part_small : (xs : List ℤ) (i k : ℕ) (p : ℤ) (w : ℕ) → IsPart xs i k p → k ≤ length xs → All (λ x. unsigned_abs x ≤ w) xs → unsigned_abs p ≤ w
unfolding IsPart
part_small xs i k p w part l all = elim part [
  | inl a ↦ let b = all i (pos 0) (let m = a.0 in omega arith) in rw a.1 b
  | inr a ↦ let z = ap (λ (v : ℤ). unsigned_abs v) a.1 in omega (arith, linear)
]

part_zero : (xs : List ℤ) (i k : ℕ) (p : ℤ) → IsPart xs i k p → get_or xs i (pos 0) ≡ pos 0 → p ≡ pos 0
unfolding IsPart
part_zero xs i k p part z = elim part [ inl a ↦ a.1 ∙ z | inr a ↦ a.1 ]

prefix_next : (d p q a b x c : ℤ) → d ≡ p -ℤ q → c ≡ a -ℤ b → d +ℤ c *ℤ x ≡ (p +ℤ a *ℤ x) -ℤ (q +ℤ b *ℤ x)
prefix_next d p q a b x c e f = rw (e, f) (simp expand (omega (arith, linear)))

-- the first products of a comparison: a number less another one
record IsPrefix (cs xs : List ℤ) (i j k : ℕ) : Type 0 where
  p : ℤ
  q : ℤ
  first : IsPart xs i k p
  second : IsPart xs j k q
  is : dot (take k cs) (take k xs) ≡ p -ℤ q

prefix : (cs xs : List ℤ) (i j : ℕ) → IsComparison cs i j → length cs ≡ length xs → (k : ℕ) → k ≤ length cs → IsPrefix cs xs i j k
unfolding IsPart
prefix cs xs i j is long zero l = record {
  p = pos 0;
  q = pos 0;
  first = inr (omega arith, refl);
  second = inr (omega arith, refl);
  is = omega (arith, linear);
}
prefix cs xs i j is long (suc k) l =
    let before = prefix cs xs i j is long k (omega arith) in
    let x = get_or xs k (pos 0) in
    let more : k + 1 ≡ suc k = omega arith in
    record {
      p = before.p +ℤ one_at i k *ℤ x;
      q = before.q +ℤ one_at j k *ℤ x;
      first = rw more at (part_next xs i k before.p before.first);
      second = rw more at (part_next xs j k before.q before.second);
      is = subst (λ n. dot (take n cs) (take n xs) ≡ (before.p +ℤ one_at i k *ℤ x) -ℤ (before.q +ℤ one_at j k *ℤ x)) more
          (dot-take_more cs xs k (omega arith) (omega arith)
          ∙ prefix_next (dot (take k cs) (take k xs)) before.p before.q (one_at i k) (one_at j k) x (get_or cs k (pos 0)) before.is
          (is.at k (omega arith)));
    }

-- at numbers up to w the products are at most 2 w, and one by one at most w
pub prefix_small : (cs xs : List ℤ) (i j w k : ℕ) → IsComparison cs i j → length cs ≡ length xs → All (λ x. unsigned_abs x ≤ w) xs → k ≤ length cs
    → unsigned_abs (dot (take k cs) (take k xs)) ≤ 2 * w
prefix_small cs xs i j w k is long all l =
    let at = prefix cs xs i j is long k l in
    let a = part_small xs i k at.p w at.first (omega arith) all in
    let b = part_small xs j k at.q w at.second (omega arith) all in
    rw at.is (omega (arith, linear))

product_small : (cs xs : List ℤ) (i j w k : ℕ) → IsComparison cs i j → length cs ≡ length xs → All (λ x. unsigned_abs x ≤ w) xs → k < length cs
    → unsigned_abs (get_or cs k (pos 0) *ℤ get_or xs k (pos 0)) ≤ w
product_small cs xs i j w k is long all l =
    let p = up_to-product 1 w (get_or cs k (pos 0)) (get_or xs k (pos 0)) (coefficient_small cs i j k is l) (all k (pos 0) (omega arith)) in omega arith

whole_dot : (cs xs : List ℤ) → length cs ≡ length xs → dot (take (length cs) cs) (take (length cs) xs) ≡ dot cs xs
whole_dot cs xs long = rw (take_all (length cs) cs (omega arith), take_all (length cs) xs (omega arith)) refl

pub whole_small : (cs xs : List ℤ) (i j w : ℕ) → IsComparison cs i j → length cs ≡ length xs → All (λ x. unsigned_abs x ≤ w) xs
    → unsigned_abs (dot cs xs) ≤ 2 * w
whole_small cs xs i j w is long all = rw (whole_dot cs xs long) at (prefix_small cs xs i j w (length cs) is long all (omega arith))

-- where the point has 0 at a column that is compared
column_small : (cs xs : List ℤ) (i j w col : ℕ) → IsComparison cs i j → length cs ≡ length xs → All (λ x. unsigned_abs x ≤ w) xs → col < length cs
    → get_or cs col (pos 0) ≢ pos 0 → get_or xs col (pos 0) ≡ pos 0 → unsigned_abs (dot cs xs) ≤ w
column_small cs xs i j w col is long all l has nil =
    let at = prefix cs xs i j is long (length cs) (omega arith) in
    let a = part_small xs i (length cs) at.p w at.first (omega arith) all in
    let b = part_small xs j (length cs) at.q w at.second (omega arith) all in
    let e : dot cs xs ≡ at.p -ℤ at.q = sym (whole_dot cs xs long) ∙ at.is in
    elim (coefficient_cases cs i j col is l) [
      | inl c ↦ let z = part_zero xs i (length cs) at.p at.first (rw c.0 at nil) in rw e (omega (arith, linear))
      | inr d ↦ elim d [
        | inl c ↦ let z = part_zero xs j (length cs) at.q at.second (rw c.0 at nil) in rw e (omega (arith, linear))
        | inr c ↦ absurd (has c)
      ]
    ]

-- ---- one row
module _ (g : Gauge) (bits w : ℕ) (r : Row) (xs : List ℤ) (h : IsDifferenceRow bits r) (all : All (λ x. unsigned_abs x ≤ w) xs) (room : 2 ^ bits + 2 * w < 2 ^ g.bits) (long : length r.coefs ≡ length xs) where
  pub sum_fits : SumPassesLimit g r.constant r.coefs xs → ⊥
  sum_fits passes =
      let k = passes.0 in
      let l = passes.1 in
      let c = h.constant in
      elim passes.2 [
        | inl n ↦ n (let a = product_small r.coefs xs h.first h.second w k h.compares long all l in omega arith)
        | inr n ↦ n (
            let a = prefix_small r.coefs xs h.first h.second w (k + 1) h.compares long all (omega arith) in
            let e = dot-take_more r.coefs xs k (omega arith) (omega arith) in
            omega (arith, linear))
      ]

  pub form_fits : FormPassesLimit g r.coefs r.constant xs → ⊥
  form_fits passes =
      let c = h.constant in
      elim passes [
        | inl some ↦ elim some.2 [
          | inl n ↦ n (let a = product_small r.coefs xs h.first h.second w some.0 h.compares long all some.1 in omega arith)
          | inr n ↦ n (let l = some.1 in let a = prefix_small r.coefs xs h.first h.second w (some.0 + 1) h.compares long all (omega arith) in omega (arith, linear))
        ]
        | inr n ↦ n (let a = whole_small r.coefs xs h.first h.second w h.compares long all in omega (arith, linear))
      ]

  pub value_small : (col : ℕ) → col < length xs → coef_at r col ≢ pos 0 → get_or xs col (pos 0) ≡ pos 0
      → unsigned_abs (r.constant +ℤ dot r.coefs xs) ≤ 2 ^ bits + w
  value_small col l has nil =
      let c = h.constant in
      let a = column_small r.coefs xs h.first h.second w col h.compares long all (omega arith) has nil in
      omega (arith, linear)

pub unit_bound : (bits : ℕ) (r : Row) (col : ℕ) → IsDifferenceRow bits r → col < length r.coefs → coef_at r col ≢ pos 0 → IsUnitBound r.kind (coef_at r col)
unit_bound bits r col h l has = record {
  unit = elim (coefficient_cases r.coefs h.first h.second col h.compares l) [
    | inl a ↦ inl a.1
    | inr b ↦ elim b [ inl a ↦ inr a.1 | inr e ↦ absurd (has e) ]
  ];
  kind = h.kind;
}

-- ---- rows in turn
form_put : (r : Row) (point : List ℤ) (col : ℕ) (y : ℤ) → col < length point → get_or point col (pos 0) ≡ pos 0
    → value_at r (set point col y) ≡ (r.constant +ℤ dot r.coefs point) +ℤ coef_at r col *ℤ y
form_put r point col y l nil = let e = dot-set r.coefs point col y l in by (dot r.coefs (set point col y)) (dot r.coefs point) r.constant (coef_at r col) y (get_or point col (pos 0)) e nil
  where
    by : (n d c f y z : ℤ) → n ≡ d +ℤ f *ℤ (y -ℤ z) → z ≡ pos 0 → n +ℤ c ≡ (c +ℤ d) +ℤ f *ℤ y
    by n d c f y z e o = let e2 = simp expand at (rw o at e) in simp expand (omega (arith, linear))

-- what rows that were seen say of the number at the column
pub record IsSeen (g h : Gauge) (rows : List Row) (point : List ℤ) (col i : ℕ) (b : Bounds) : Type 0 where
  pub same : h ≡ g
  pub inside : (y : ℤ) → HoldRows (take i rows) (set point col y) → IsInside b y
  pub serves : (x y : ℤ) → HoldRows (take i rows) (set point col y) → Serves b x y → HoldRows (take i rows) (set point col x)
  pub within : AreUpTo (2 ^ g.bits - 1) b
  pub small : (bits w : ℕ) → AreSmallAt g bits w rows point → AreUpTo (2 ^ bits + w) b

pub seen_first : (g : Gauge) (rows : List Row) (point : List ℤ) (col : ℕ) (b : Bounds) → b.exact ≡ None → b.least ≡ None → b.greatest ≡ None
    → IsSeen g g rows point col 0 b
seen_first g rows point col b e l u = record {
  same = refl;
  inside = λ y h. record { exact = rw e tt; least = rw l tt; greatest = rw u tt };
  serves = λ x y h s k d m. absurd (omega arith);
  within = record { exact = rw e tt; least = rw l tt; greatest = rw u tt };
  small = λ bits w a. record { exact = rw e tt; least = rw l tt; greatest = rw u tt };
}

parted : (P : Row → Type 0) (rows : List Row) (i : ℕ) (r : Row) → i < length rows → r ≡ get_or rows i r → All P (take (i + 1) rows)
    → All P (take i rows) × P r
parted P rows i r l is all =
    let both = All-last P (take i rows) (get_or rows i r) (subst (All P) (take_more rows i r l) all) in
    (both.0, subst P (sym is) both.1)

joined : (P : Row → Type 0) (rows : List Row) (i : ℕ) (r : Row) → i < length rows → r ≡ get_or rows i r → All P (take i rows) → P r
    → All P (take (i + 1) rows)
joined P rows i r l is all h = All-more P rows i r l all (subst P is h)

-- a row that has the column not
pub seen_without : (g h : Gauge) (rows : List Row) (point : List ℤ) (col i : ℕ) (b : Bounds) (r : Row) → IsSeen g h rows point col i b
    → i < length rows → r ≡ get_or rows i r → col < length point → get_or point col (pos 0) ≡ pos 0 → coef_at r col ≡ pos 0
    → IsSeen g h rows point col (i + 1) b
seen_without g h rows point col i b r s l is inside nil none = record {
  same = s.same;
  inside = λ y all. s.inside y (parted (λ q. HoldsRow q (set point col y)) rows i r l is all).0;
  serves = λ x y all v.
      let both = parted (λ q. HoldsRow q (set point col y)) rows i r l is all in
      let value : value_at r (set point col y) ≡ value_at r (set point col x) =
      form_put r point col y inside nil ∙ nothing (coef_at r col) x y none ∙ sym (form_put r point col x inside nil) in
      joined (λ q. HoldsRow q (set point col x)) rows i r l is (s.serves x y both.0 v) (subst (HoldsValue r.kind r.k) value both.1);
  within = s.within;
  small = s.small;
}
  where
    nothing : (c x y : ℤ) → c ≡ pos 0 → (r.constant +ℤ dot r.coefs point) +ℤ c *ℤ y ≡ (r.constant +ℤ dot r.coefs point) +ℤ c *ℤ x
    nothing c x y e = rw e (omega (arith, linear))

-- a row that has it
pub seen_next : (g h : Gauge) (rows : List Row) (point : List ℤ) (col i : ℕ) (b next : Bounds) (r : Row) (value : ℤ)
    → IsSeen g h rows point col i b
    → i < length rows → r ≡ get_or rows i r → col < length point → length r.coefs ≡ length point → get_or point col (pos 0) ≡ pos 0
    → coef_at r col ≢ pos 0 → value ≡ r.constant +ℤ dot r.coefs point → IsWithin g value → IsMetBy r.kind (coef_at r col) value b next
    → IsSeen g h rows point col (i + 1) next
seen_next g h rows point col i b next r value s l is inside long nil has e fits met = record {
  same = s.same;
  inside = λ y all. let both = parted (λ q. HoldsRow q (set point col y)) rows i r l is all in
      met.inside r.k y (s.inside y both.0) (holds y both.1);
  serves = λ x y all v.
      let both = parted (λ q. HoldsRow q (set point col y)) rows i r l is all in
      let after = met.serves r.k x y (s.inside y both.0) (holds y both.1) v in
      joined (λ q. HoldsRow q (set point col x)) rows i r l is (s.serves x y both.0 after.0)
      (subst (HoldsValue r.kind r.k) (sym (put x)) after.1);
  within = met.small (2 ^ g.bits - 1) (omega arith) s.within;
  small = λ bits w a. met.small (2 ^ bits + w)
      (rw e (value_small g bits w r point (subst (IsDifferenceRow bits) (sym is) (a.rows i r l)) a.point a.room long col inside has nil))
      (s.small bits w a);
}
  where
    put : (y : ℤ) → value_at r (set point col y) ≡ value +ℤ coef_at r col *ℤ y
    put y = form_put r point col y inside nil ∙ ap (λ (v : ℤ). v +ℤ coef_at r col *ℤ y) (sym e)

    holds : (y : ℤ) → HoldsRow r (set point col y) → HoldsValue r.kind r.k (value +ℤ coef_at r col *ℤ y)
    holds y a = subst (HoldsValue r.kind r.k) (put y) a

-- all rows were seen
pub seen_all : (g h : Gauge) (rows : List Row) (point : List ℤ) (col i : ℕ) (b : Bounds) (x : ℤ) → IsSeen g h rows point col i b → length rows ≤ i
    → IsTakenOf b.exact b.least b.greatest x → IsBest rows point col x × IsWithin g x
seen_all g h rows point col i b x s l t = (
  (λ y all.
      let whole = take_all i rows l in
      let seen = subst (λ rs. HoldRows rs (set point col y)) (sym whole) all in
      let in_y = s.inside y seen in
      subst (λ rs. HoldRows rs (set point col x)) whole
      (s.serves x y seen (record { serves = number_serves b.exact b.least b.greatest x y t in_y.exact in_y.least in_y.greatest }))),
  (let m = number_small b.exact b.least b.greatest x (2 ^ g.bits - 1) t s.within.exact s.within.least s.within.greatest in
      omega (arith, pow_pos g.bits)),
)

pub seen_small : (g h : Gauge) (rows : List Row) (point : List ℤ) (col i : ℕ) (b : Bounds) (x : ℤ) (bits w : ℕ) → IsSeen g h rows point col i b
    → AreSmallAt g bits w rows point → IsTakenOf b.exact b.least b.greatest x → unsigned_abs x ≤ 2 ^ bits + w
seen_small g h rows point col i b x bits w s a t =
    let m = s.small bits w a in number_small b.exact b.least b.greatest x (2 ^ bits + w) t m.exact m.least m.greatest
