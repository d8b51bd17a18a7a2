-- How many whole numbers in a row are enough: what the search for them says, which takes one class of numbers away for each row.
use Rattle.std.proofs.Common.{◌≡◌, ◌⊎◌, inl, inr, refl, sym, ap, subst, arith, Bool, true, false, not, cond, Decides, ℕ, zero, suc, ◌+◌, ◌-◌, ◌<◌, ℤ, pos, ◌+ℤ◌, ◌-ℤ◌, ◌*ℤ◌, ◌≤ℤ◌, ◌<ℤ◌, List, [], ◌∷◌, ◌++◌, drop, get_or, length}
use Rattle.std.specs.List.{All, Any, filter, insert}
use Rattle.std.specs.Ordering.{int_eq}
use Rattle.std.proofs.lemmas.Bool.Decides.{Decides-int_eq}
use Rattle.std.proofs.lemmas.List.Elements.{All-nil, All-cons, All-head, All-contains}
use Rattle.isl_math.specs.Divide.{Divides, floor_div, floor_mod}
use Rattle.isl_math.specs.Gcd.{gcd_of}
use Rattle.isl_math.proofs.Ring.{expand, linear}
use Rattle.isl_math.proofs.OrderLaws.{≤ℤ-*ℤ, positive-*ℤ, at_most_or_above}
use Rattle.isl_math.proofs.DivideLaws.{Divides-same, Divides-minus, Divides_scaled, Divides-from_coprime, floor_mod-same, floor_split, floor_mod_bounds}
use Rattle.isl_math.proofs.GcdLaws.{IsGcdOf-gcd_of}
use Rattle.isl_math.proofs.ListLaws.{Any-none, Any-cases, Any-first, Any-later, Any-element, Any-with, all_or_any}
use Rattle.isl_meter.specs.Gauge.{Gauge}
use Rattle.isl_piece.specs.declared.row.Row.{Row}
use Rattle.isl_piece.specs.Row.{HoldsRow, coef_at}
use Rattle.isl_piece.proofs.RowLemmas.{HasModulus-positive}
use Rattle.isl_omega.specs.Column.{HoldAt, rest_at}
use Rattle.isl_omega.specs.Congruence.{period, product_of_periods}
use Rattle.isl_omega.specs.Sides.{IsNotDivides}
use Rattle.isl_omega.proofs.PeriodLemmas.{period_short, period_multiple}
use Rattle.isl_omega.proofs.SubstitutionLemmas.{coprime_parts}
use Rattle.isl_shadows.specs.Neighbours.{IsMetWithin, IsMetAmong, AreMetAmong, others_than}
use Rattle.isl_shadows.proofs.CommonPeriods.{product-push}
use Rattle.isl_shadows.proofs.DarkShadowLemmas.{not_divides_holds}
use Rattle.isl_shadows.proofs.NeighbourLemmas.{Divides_or_not, one_of_two}

-- ---- one row
-- k divides c d only where the period divides d
period_divides : (c k d : ℤ) → pos 0 <ℤ k → Divides k (c *ℤ d) → Divides (floor_div k (gcd_of c k)) d
period_divides c k d p h =
    let g = gcd_of c k in
    let m = floor_div k g in
    let n = floor_div c g in
    let parts = coprime_parts c k g m n p (IsGcdOf-gcd_of c k) refl refl in
    let scaled : Divides (g *ℤ m) (g *ℤ (n *ℤ d)) = subst (λ (z : ℤ). Divides z (g *ℤ (n *ℤ d))) parts.modulus
    (Divides-same k (c *ℤ d) (g *ℤ (n *ℤ d)) (by c g n d parts.coefficient) h) in
    Divides-from_coprime m n d parts.coprime ((Divides_scaled g m (n *ℤ d) parts.positive).0 scaled)
  where
    by : (c g n d : ℤ) → c ≡ g *ℤ n → c *ℤ d ≡ g *ℤ (n *ℤ d)
    by c g n d e = let e' = simp expand at (ap (λ z. z *ℤ d) e) in simp expand (omega (arith, linear))

-- numbers at which k divides what the row says leave the same when divided by the period
same_class : (c k f x m n : ℤ) → pos 0 <ℤ k → pos 0 <ℤ floor_div k (gcd_of c k) → Divides k (c *ℤ (x +ℤ m) +ℤ f) → Divides k (c *ℤ (x +ℤ n) +ℤ f)
    → floor_mod n (floor_div k (gcd_of c k)) ≡ floor_mod m (floor_div k (gcd_of c k))
same_class c k f x m n p q d e =
    floor_mod-same (floor_div k (gcd_of c k)) n m q (period_divides c k (n -ℤ m) p
    (Divides-same k (c *ℤ (x +ℤ n) +ℤ f -ℤ (c *ℤ (x +ℤ m) +ℤ f)) (c *ℤ (n -ℤ m)) (by c x n m f)
    (Divides-minus k (c *ℤ (x +ℤ n) +ℤ f) (c *ℤ (x +ℤ m) +ℤ f) e d)))
  where
    by : (c x n m f : ℤ) → c *ℤ (x +ℤ n) +ℤ f -ℤ (c *ℤ (x +ℤ m) +ℤ f) ≡ c *ℤ (n -ℤ m)
    by c x n m f = simp expand (omega (arith, linear))

not_same : (a b : ℤ) → not (int_eq a b) ≡ true → a ≡ b → ⊥
not_same a b = by (int_eq a b) (Decides-int_eq a b)
  where
    by : (same : Bool) → Decides same (a ≡ b) → not same ≡ true → a ≡ b → ⊥
    by true d e h = cc
    by false d e h = let t = d.1 h in cc

Any-filter : {X : Type 0} (test : X → Bool) (P Q : X → Type 0) → ((x : X) → test x ≡ true → P x → Q x) → (xs : List X) → Any P (filter test xs)
    → Any Q xs
Any-filter test P Q f [] a = absurd (Any-none P a)
Any-filter test P Q f (x ∷ xs) a = by (test x) refl (λ b. Any-filter test P Q f xs b) a
  where
    by : (kept : Bool) → kept ≡ test x → (Any P (filter test xs) → Any Q xs) → Any P (cond kept (x ∷ filter test xs) (filter test xs))
        → Any Q (x ∷ xs)
    by true e rest a = elim (Any-cases P x (filter test xs) a) [ inl h ↦ Any-first Q x xs (f x (sym e) h) | inr h ↦ Any-later Q x xs (rest h) ]
    by false e rest a = Any-later Q x xs (rest a)

-- ---- the numbers that one row takes
-- the modulus of the row divides what it says there
abbrev pub IsHit : ℕ → Row → List ℤ → ℤ → ℤ → Type 0
IsHit col r point x n = Divides r.k (coef_at r col *ℤ (x +ℤ n) +ℤ rest_at r col point)

pub met_or_hit : (g : Gauge) (columns col : ℕ) (r : Row) (point : List ℤ) (x : ℤ) → col < columns → length point ≡ columns - 1
    → IsNotDivides g columns col r → (n : ℤ) → HoldsRow r (insert point col (x +ℤ n)) ⊎ IsHit col r point x n
met_or_hit g columns col r point x l w h n =
    elim (Divides_or_not r.k (coef_at r col *ℤ (x +ℤ n) +ℤ rest_at r col point) (HasModulus-positive r.kind r.k h.proper.formed.modulus)) [
      | inl d ↦ inr d
      | inr d ↦ inl ((not_divides_holds g columns col r point (x +ℤ n) h l w).1 d)
    ]

-- a number of another class than one that is taken
pub met_apart : (g : Gauge) (columns col : ℕ) (r : Row) (point : List ℤ) (x : ℤ) → col < columns → length point ≡ columns - 1
    → IsNotDivides g columns col r → (m n : ℤ) → IsHit col r point x m
    → not (int_eq (floor_mod n (period col r)) (floor_mod m (period col r))) ≡ true → HoldsRow r (insert point col (x +ℤ n))
met_apart g columns col r point x l w h m n d e = (not_divides_holds g columns col r point (x +ℤ n) h l w).1
    (λ also. not_same (floor_mod n (period col r)) (floor_mod m (period col r)) e
    (same_class (coef_at r col) r.k (rest_at r col point) x m n modulus (period_short (coef_at r col) r.k modulus).positive d also))
  where
    modulus : pos 0 <ℤ r.k
    modulus = HasModulus-positive r.kind r.k h.proper.formed.modulus

pub row_met : (g : Gauge) (columns col : ℕ) (r : Row) (rows : List Row) (numbers : List ℤ) (point : List ℤ) (x : ℤ) → col < columns
    → length point ≡ columns - 1 → IsNotDivides g columns col r → 0 < length numbers
    → All (λ n. IsMetAmong rows col point x (others_than (period col r) n numbers)) numbers → IsMetAmong (r ∷ rows) col point x numbers
row_met g columns col r rows numbers point x l w h some each = elim (all_or_any Met Hit numbers (λ i d k. either (get_or numbers i d))) [
  | inl met ↦ Any-with P Met Both (λ n p m. both n m p) numbers met
      (Any-filter (is_other (get_or numbers 0 (pos 0))) P P (λ n e p. p) numbers (each 0 (pos 0) some))
  | inr hit ↦
      let one = Any-element Hit numbers hit in
      Any-filter (is_other one.0) P Both (λ n e p. both n (missed one.0 n one.2 e) p) numbers
      (All-contains (λ n. IsMetAmong rows col point x (others_than (period col r) n numbers)) numbers one.0 each one.1)
]
  where
    H : ℤ → Row → Type 0
    H n q = HoldsRow q (insert point col (x +ℤ n))

    P : ℤ → Type 0
    P n = HoldAt rows col point (x +ℤ n)

    Both : ℤ → Type 0
    Both n = HoldAt (r ∷ rows) col point (x +ℤ n)

    Met : ℤ → Type 0
    Met n = HoldsRow r (insert point col (x +ℤ n))

    Hit : ℤ → Type 0
    Hit = IsHit col r point x

    is_other : ℤ → ℤ → Bool
    is_other m n = not (int_eq (floor_mod n (period col r)) (floor_mod m (period col r)))

    both : (n : ℤ) → Met n → P n → Both n
    both n m p = All-cons (λ q. HoldsRow q (insert point col (x +ℤ n))) r rows m p

    either : (n : ℤ) → Met n ⊎ Hit n
    either = met_or_hit g columns col r point x l w h

    missed : (m n : ℤ) → Hit m → is_other m n ≡ true → Met n
    missed = met_apart g columns col r point x l w h

-- ---- choices
drop_next : {X : Type 0} (xs : List X) (i : ℕ) (x : X) → i < length xs → x ≡ get_or xs i x → drop i xs ≡ x ∷ drop (suc i) xs
drop_next [] i x h e = absurd (omega arith)
drop_next (y ∷ xs) zero x h e = ap (λ z. z ∷ xs) (sym e)
drop_next (y ∷ xs) (suc i) x h e = drop_next xs i x (omega arith) e

pub drop_row : {X : Type 0} (xs : List X) (i : ℕ) (x : X) → i < length xs → x ≡ get_or xs i x → drop i xs ≡ x ∷ drop (i + 1) xs
drop_row xs i x h e = subst (λ n. drop i xs ≡ x ∷ drop n xs) (next i) (drop_next xs i x h e)
  where
    next : (i : ℕ) → suc i ≡ i + 1
    next i = omega arith

-- ---- neighbours
pub met_within : (columns col : ℕ) (rows : List Row) (numbers : List ℤ) (last : ℕ) (neighbours : ℤ) → neighbours ≡ pos last
    → All (λ n. (pos 0 ≤ℤ n) × (n <ℤ pos (last + 1))) numbers
    → AreMetAmong columns col rows numbers → IsMetWithin columns col rows neighbours
met_within columns col rows numbers last neighbours is in_row met = record {
  not_negative = omega (arith, linear);
  met = λ point x w.
      let e = Any-element (λ n. HoldAt rows col point (x +ℤ n)) numbers (met point x w) in
      let bounds = All-contains (λ n. (pos 0 ≤ℤ n) × (n <ℤ pos (last + 1))) numbers e.0 in_row e.1 in
      (e.0, bounds.0, below e.0 bounds.1, e.2);
}
  where
    below : (n : ℤ) → n <ℤ pos (last + 1) → n ≤ℤ neighbours
    below n h = omega (arith, linear)

pub met_none : (columns col : ℕ) → IsMetWithin columns col [] (pos 0)
met_none columns col = record {
  not_negative = omega (arith, linear);
  met = λ point x w. (pos 0, omega (arith, linear), omega (arith, linear), All-nil (λ r. HoldsRow r (insert point col (x +ℤ pos 0))));
}

pub met_one : (g : Gauge) (columns col : ℕ) (r : Row) → col < columns → IsNotDivides g columns col r → IsMetWithin columns col (r ∷ []) (pos 1)
met_one g columns col r l h = record {
  not_negative = omega (arith, linear);
  met = λ point x w. elim (one_of_two r.k (coef_at r col) (rest_at r col point) (x +ℤ pos 0)
      (HasModulus-positive r.kind r.k h.proper.formed.modulus) h.depends) [
        | inl d ↦ (
          pos 0,
          omega (arith, linear),
          omega (arith, linear),
          alone point (x +ℤ pos 0)
              ((not_divides_holds g columns col r point (x +ℤ pos 0) h l w).1 d),
        )
        | inr d ↦ (
          pos 1,
          omega (arith, linear),
          omega (arith, linear),
          alone point (x +ℤ pos 1)
              ((not_divides_holds g columns col r point (x +ℤ pos 1) h l w).1 (rw (next x) at d)),
        )
      ];
}
  where
    alone : (point : List ℤ) (y : ℤ) → HoldsRow r (insert point col y) → HoldAt (r ∷ []) col point y
    alone point y held = All-cons (λ q. HoldsRow q (insert point col y)) r [] held (All-nil (λ q. HoldsRow q (insert point col y)))

    next : (x : ℤ) → x +ℤ pos 0 +ℤ pos 1 ≡ x +ℤ pos 1
    next x = omega (arith, linear)

-- ---- the product of the periods
-- a row that depends on the column has a period above 1
pub period_above_one : (g : Gauge) (columns col : ℕ) (r : Row) → IsNotDivides g columns col r → pos 1 <ℤ period col r
period_above_one g columns col r h =
    let k = HasModulus-positive r.kind r.k h.proper.formed.modulus in
    let p = (period_short (coef_at r col) r.k k).positive in
    by (coef_at r col) r.k (period col r) h.depends p (period_multiple (coef_at r col) r.k k)
  where
    by : (c k p : ℤ) → (Divides k c → ⊥) → pos 0 <ℤ p → Divides k (c *ℤ p) → pos 1 <ℤ p
    by c k p n q d = elim (at_most_or_above p (pos 1)) [
      | inl le ↦ absurd (n (Divides-same k (c *ℤ p) c (once c p (omega (arith, linear))) d))
      | inr above ↦ above
    ]
      where
        once : (c p : ℤ) → p ≡ pos 1 → c *ℤ p ≡ c
        once c p e = let e' = simp expand at (ap (λ z. c *ℤ z) e) in simp expand (omega (arith, linear))

pub periods_above_one : (g : Gauge) (columns col : ℕ) (r : Row) → IsNotDivides g columns col r → pos 1 <ℤ product_of_periods col (r ∷ [])
periods_above_one g columns col r h = let p = period_above_one g columns col r h in omega (arith, linear)

-- what is left of a number, divided by the periods so far
pub record IsLeft (col : ℕ) (rows : List Row) (number left : ℤ) : Type 0 where
  pub positive : pos 0 <ℤ product_of_periods col rows
  pub below : number <ℤ ((left +ℤ pos 1) *ℤ product_of_periods col rows)

pub left_none : (col : ℕ) (number : ℤ) → IsLeft col [] number number
left_none col number = record { positive = omega (arith, linear); below = omega (arith, linear) }

pub left_more : (g : Gauge) (columns col : ℕ) (rows : List Row) (r : Row) (number left : ℤ) → IsNotDivides g columns col r
    → IsLeft col rows number left → IsLeft col (rows ++ r ∷ []) number (floor_div left (period col r))
left_more g columns col rows r number left h is =
    let p = period_above_one g columns col r h in
    let q : pos 0 <ℤ period col r = omega (arith, linear) in
    record {
      positive = rw (product-push col rows r) (positive-*ℤ (product_of_periods col rows) (period col r) is.positive q);
      below = rw (product-push col rows r) (by (product_of_periods col rows) (period col r) number left (floor_div left (period col r)) (floor_mod left (period col r))
          is.positive is.below
          (floor_split left (period col r) q) (floor_mod_bounds left (period col r) q).1);
    }
  where
    by : (product p number left fewer rest : ℤ) → pos 0 <ℤ product → number <ℤ ((left +ℤ pos 1) *ℤ product) → p *ℤ fewer +ℤ rest ≡ left → rest <ℤ p
        → number <ℤ ((fewer +ℤ pos 1) *ℤ (product *ℤ p))
    by product p number left fewer rest q below split small =
        let split' = simp expand at split in
        let above : (left +ℤ pos 1) ≤ℤ (p *ℤ (fewer +ℤ pos 1)) = simp expand (omega (arith, linear)) in
        let more = simp expand at (≤ℤ-*ℤ product (left +ℤ pos 1) (p *ℤ (fewer +ℤ pos 1)) (omega (arith, linear)) above) in
        let below' = simp expand at below in
        simp expand (omega (arith, linear))

pub left_below : (col : ℕ) (rows : List Row) (number left : ℤ) → left ≡ pos 0 → IsLeft col rows number left → number <ℤ product_of_periods col rows
left_below col rows number left e is = by (product_of_periods col rows) number left e is.below
  where
    by : (product number left : ℤ) → left ≡ pos 0 → number <ℤ ((left +ℤ pos 1) *ℤ product) → number <ℤ product
    by product number left e h = let h' : number <ℤ ((pos 0 +ℤ pos 1) *ℤ product) = rw e at h in simp expand (omega (arith, linear, h'))

-- ---- no row, and a row alone
pub met_empty : (columns col : ℕ) (rows : List Row) → rows ≡ [] → IsMetWithin columns col rows (pos 0) × (pos 0 <ℤ product_of_periods col rows)
met_empty columns col rows e = rw e (met_none columns col, omega (arith, linear))

pub met_alone : (g : Gauge) (columns col : ℕ) (rows : List Row) → col < columns → length rows ≡ 1 → All (IsNotDivides g columns col) rows
    → IsMetWithin columns col rows (pos 1) × (pos 1 <ℤ product_of_periods col rows)
met_alone g columns col [] l n h = absurd (omega arith)
met_alone g columns col (r ∷ []) l n h =
    let own = All-head (IsNotDivides g columns col) r [] h in
    (met_one g columns col r l own, periods_above_one g columns col r own)
met_alone g columns col (r ∷ s ∷ rows) l n h = absurd (omega arith)
