-- How many numbers are surely left where each row takes one class: more than the rows can take.
use Rattle.std.proofs.Common.{◌≡◌, inl, inr, refl, sym, ap, subst, arith, Bool, true, false, not, cond, ℕ, zero, suc, ◌+◌, ◌-◌, ◌<◌, ◌≤◌, ℤ, ◌+ℤ◌, List, [], ◌∷◌, ◌++◌, get_or, length, map, take, drop}
use Rattle.std.specs.List.{All, Any, Contains, filter, insert}
use Rattle.std.specs.Ordering.{int_eq}
use Rattle.std.proofs.lemmas.List.Elements.{All-nil, All-cons, All-head, All-tail, All-push, All-contains}
use Rattle.isl_math.specs.Divide.{floor_mod}
use Rattle.isl_math.proofs.ListLaws.{Contains-later, All-unmapped, All-parts, Any-contains, Any-element, Any-first, Any-later, Any-left, Any-right, Any-parts, Any-weaker, all_or_any}
use Rattle.isl_meter.specs.Gauge.{Gauge}
use Rattle.isl_piece.specs.declared.row.Row.{Row}
use Rattle.isl_piece.specs.Row.{HoldsRow}
use Rattle.isl_omega.specs.Column.{HoldAt}
use Rattle.isl_omega.specs.Congruence.{period}
use Rattle.isl_omega.specs.Sides.{IsNotDivides}
use Rattle.isl_shadows.specs.Neighbours.{AreMetAmong, Has}
use Rattle.isl_shadows.proofs.SearchLemmas.{IsHit, met_or_hit, met_apart}

take-drop : {X : Type 0} (i : ℕ) (xs : List X) → take i xs ++ drop i xs ≡ xs
take-drop zero xs = refl
take-drop (suc i) [] = refl
take-drop (suc i) (x ∷ xs) = ap (λ rest. x ∷ rest) (take-drop i xs)

contains_each : {X : Type 0} (xs : List X) → All (Contains xs) xs
contains_each [] = All-nil (Contains [])
contains_each (x ∷ xs) = All-cons (Contains (x ∷ xs)) x xs (0, omega arith, refl)
    (λ i d k. Contains-later x xs (get_or xs i d) (contains_each xs i d k))

-- ---- filtered lists
All-filtered : {X : Type 0} (test : X → Bool) (P Q : X → Type 0) → ((x : X) → test x ≡ true → P x → Q x) → (xs : List X) → All P xs
    → All Q (filter test xs)
All-filtered test P Q f [] a = All-nil Q
All-filtered test P Q f (x ∷ xs) a = by (test x) refl (All-filtered test P Q f xs (All-tail P x xs a))
  where
    by : (kept : Bool) → kept ≡ test x → All Q (filter test xs) → All Q (cond kept (x ∷ filter test xs) (filter test xs))
    by true e rest = All-cons Q x (filter test xs) (f x (sym e) (All-head P x xs a)) rest
    by false e rest = rest

-- of some of the elements no more pass
filter_fewer : {X : Type 0} (test q : X → Bool) (xs : List X) → length (filter q (filter test xs)) ≤ length (filter q xs)
filter_fewer test q [] = omega arith
filter_fewer test q (x ∷ xs) = by (test x) (q x) refl (filter_fewer test q xs)
  where
    by : (kept passed : Bool) → passed ≡ q x → length (filter q (filter test xs)) ≤ length (filter q xs)
        → length (filter q (cond kept (x ∷ filter test xs) (filter test xs))) ≤ length (cond passed (x ∷ filter q xs) (filter q xs))
    by true true e rest = rw (sym e) (omega (arith, rest))
    by true false e rest = rw (sym e) (omega (arith, rest))
    by false true e rest = omega (arith, rest)
    by false false e rest = omega (arith, rest)

-- each passes one of a test and its opposite
filter_split : {X : Type 0} (test : X → Bool) (xs : List X) → length xs ≤ length (filter (λ x. not (test x)) xs) + length (filter test xs)
filter_split test [] = omega arith
filter_split test (x ∷ xs) = by (test x) (filter_split test xs)
  where
    by : (passed : Bool) → length xs ≤ length (filter (λ x. not (test x)) xs) + length (filter test xs)
        → suc (length xs) ≤ length (cond (not passed) (x ∷ filter (λ x. not (test x)) xs) (filter (λ x. not (test x)) xs))
        + length (cond passed (x ∷ filter test xs) (filter test xs))
    by true rest = omega (arith, rest)
    by false rest = omega (arith, rest)

filter_mapped : {X Y : Type 0} (f : X → Y) (test : Y → Bool) (xs : List X) → length (filter (λ x. test (f x)) xs) ≡ length (filter test (map f xs))
filter_mapped f test [] = refl
filter_mapped f test (x ∷ xs) = by (test (f x)) (filter_mapped f test xs)
  where
    by : (passed : Bool) → length (filter (λ x. test (f x)) xs) ≡ length (filter test (map f xs))
        → length (cond passed (x ∷ filter (λ x. test (f x)) xs) (filter (λ x. test (f x)) xs))
        ≡ length (cond passed (f x ∷ filter test (map f xs)) (filter test (map f xs)))
    by true rest = ap suc rest
    by false rest = rest

-- ---- how often a number stands there
abbrev pub AreAtMost : List ℤ → ℕ → List ℤ → Type 0
AreAtMost numbers most some = All (λ m. length (filter (λ n. int_eq n m) numbers) ≤ most) some

pub most_more : (numbers some : List ℤ) (m : ℤ) (most count more : ℕ) → AreAtMost numbers most some
    → count ≡ length (filter (λ n. int_eq n m) numbers) → most ≤ more → count ≤ more → AreAtMost numbers more (some ++ m ∷ [])
most_more numbers some m most count more all is above enough =
    All-push (λ m. length (filter (λ n. int_eq n m) numbers) ≤ more) some m
    (λ i d k. by (length (filter (λ n. int_eq n (get_or some i d)) numbers)) (all i d k)) (rw (sym is) enough)
  where
    by : (own : ℕ) → own ≤ most → own ≤ more
    by own h = omega (arith, h, above)

-- ---- numbers that are left
-- some of the numbers, each of which meets the rows; of no kind there are more than among all
pub record IsRest (col : ℕ) (rows : List Row) (point : List ℤ) (x : ℤ) (numbers : List ℤ) (left : ℕ) : Type 0 where
  pub some : List ℤ
  pub many : left ≤ length some
  pub counts : (test : ℤ → Bool) → length (filter test some) ≤ length (filter test numbers)
  pub inside : All (Contains numbers) some
  pub held : All (λ n. HoldAt rows col point (x +ℤ n)) some

-- at least so many of the numbers meet the rows, wherever they are counted from
abbrev pub AreLeft : ℕ → ℕ → List Row → List ℤ → ℕ → Type 0
AreLeft columns col rows numbers left = (point : List ℤ) (x : ℤ) → length point ≡ columns - 1 → IsRest col rows point x numbers left

pub left_of_all : (columns col : ℕ) (numbers : List ℤ) → AreLeft columns col [] numbers (length numbers)
left_of_all columns col numbers point x w = record {
  some = numbers;
  many = omega arith;
  counts = λ test. omega arith;
  inside = contains_each numbers;
  held = λ i d k. All-nil (λ r. HoldsRow r (insert point col (x +ℤ get_or numbers i d)));
}

pub left_behind : (g : Gauge) (columns col : ℕ) (rows : List Row) (r : Row) (numbers rests : List ℤ) (left most fewer : ℕ) → col < columns
    → IsNotDivides g columns col r → rests ≡ map (λ n. floor_mod n (period col r)) numbers → AreAtMost rests most rests
    → fewer + most ≤ left → AreLeft columns col rows numbers left → AreLeft columns col (rows ++ r ∷ []) numbers fewer
left_behind g columns col rows r numbers rests left most fewer l h is at_most enough before point x w =
    elim (all_or_any Met Hit rest.some (λ i d k. met_or_hit g columns col r point x l w h (get_or rest.some i d))) [
      | inl met ↦ record {
        some = rest.some;
        many = omega (arith, enough, rest.many);
        counts = rest.counts;
        inside = rest.inside;
        held = λ i d k. both (get_or rest.some i d) (rest.held i d k) (met i d k);
      }
      | inr hit ↦
          let one = Any-element Hit rest.some hit in
          let m = one.0 in
          record {
            some = filter (is_other m) rest.some;
            many = few (length (filter (is_other m) rest.some)) (length (filter (is_alike m) rest.some)) (length (filter (is_alike m) numbers))
                (filter_split (is_alike m) rest.some) (rest.counts (is_alike m))
                (class m (All-contains (Contains numbers) rest.some m rest.inside one.1));
            counts = λ test. fewer_yet (length (filter test (filter (is_other m) rest.some))) (length (filter test rest.some))
                (length (filter test numbers)) (filter_fewer (is_other m) test rest.some) (rest.counts test);
            inside = All-filtered (is_other m) (Contains numbers) (Contains numbers) (λ n e c. c) rest.some rest.inside;
            held = All-filtered (is_other m) P Both (λ n e p. both n p (met_apart g columns col r point x l w h m n one.2 e)) rest.some rest.held;
          }
    ]
  where
    rest : IsRest col rows point x numbers left
    rest = before point x w

    P : ℤ → Type 0
    P n = HoldAt rows col point (x +ℤ n)

    Both : ℤ → Type 0
    Both n = HoldAt (rows ++ r ∷ []) col point (x +ℤ n)

    Met : ℤ → Type 0
    Met n = HoldsRow r (insert point col (x +ℤ n))

    Hit : ℤ → Type 0
    Hit = IsHit col r point x

    rest_of : ℤ → ℤ
    rest_of n = floor_mod n (period col r)

    is_alike : ℤ → ℤ → Bool
    is_alike m n = int_eq (rest_of n) (rest_of m)

    is_other : ℤ → ℤ → Bool
    is_other m n = not (is_alike m n)

    both : (n : ℤ) → P n → Met n → Both n
    both n p met = All-push (λ q. HoldsRow q (insert point col (x +ℤ n))) rows r p met

    class : (m : ℤ) → Contains numbers m → length (filter (is_alike m) numbers) ≤ most
    class m c =
        let all = subst (λ (own : List ℤ). AreAtMost own most own) is at_most in
        let own = All-contains (λ n. length (filter (λ s. int_eq s (rest_of n)) (map rest_of numbers)) ≤ most) numbers m
        (All-unmapped (λ q. length (filter (λ s. int_eq s q) (map rest_of numbers)) ≤ most) rest_of numbers all) c in
        rw (filter_mapped rest_of (λ s. int_eq s (rest_of m)) numbers) own

    few : (others alike all : ℕ) → length rest.some ≤ others + alike → alike ≤ all → all ≤ most → fewer ≤ others
    few others alike all a b c = omega (arith, a, b, c, enough, rest.many)

    fewer_yet : (a b c : ℕ) → a ≤ b → b ≤ c → a ≤ c
    fewer_yet a b c h k = omega (arith, h, k)

pub met_as_left : (columns col : ℕ) (rows : List Row) (numbers : List ℤ) (left : ℕ) → 0 < left → AreLeft columns col rows numbers left
    → AreMetAmong columns col rows numbers
met_as_left columns col rows numbers left positive before point x w =
    let rest = before point x w in
    by rest.some (above (length rest.some) rest.many) rest.inside rest.held
  where
    P : ℤ → Type 0
    P n = HoldAt rows col point (x +ℤ n)

    above : (count : ℕ) → left ≤ count → 0 < count
    above count h = omega (arith, h, positive)

    by : (some : List ℤ) → 0 < length some → All (Contains numbers) some → All P some → Any P numbers
    by [] h inside held = absurd (omega arith)
    by (m ∷ some) h inside held = Any-contains P numbers m (All-head (Contains numbers) m some inside) (All-head P m some held)

-- ---- the same rows in another order
pub has_put : (ordered : List Row) (place : ℕ) (r q : Row) → Has ordered q → Has (insert ordered place r) q
has_put ordered place r q has =
    elim (Any-parts Is (take place ordered) (drop place ordered) (subst (λ (own : List Row). Any Is own) (sym (take-drop place ordered)) has)) [
      | inl before ↦ Any-left Is (take place ordered) (r ∷ drop place ordered) before
      | inr behind ↦ Any-right Is (take place ordered) (r ∷ drop place ordered) (Any-later Is r (drop place ordered) behind)
    ]
  where
    Is : Row → Type 0
    Is s = s ≡ q

pub has_new : (ordered : List Row) (place : ℕ) (r : Row) → Has (insert ordered place r) r
has_new ordered place r =
    Any-right (λ s. s ≡ r) (take place ordered) (r ∷ drop place ordered) (Any-first (λ s. s ≡ r) r (drop place ordered) refl)

pub all_put : (P : Row → Type 0) (ordered : List Row) (place : ℕ) (r : Row) → All P ordered → P r → All P (insert ordered place r)
all_put P ordered place r all own =
    let parts = All-parts P (take place ordered) (drop place ordered) (subst (λ (rows : List Row). All P rows) (sym (take-drop place ordered)) all) in
    put (take place ordered) parts.0
  where
    behind : All P (drop place ordered)
    behind = (All-parts P (take place ordered) (drop place ordered) (subst (λ (rows : List Row). All P rows) (sym (take-drop place ordered)) all)).1

    put : (before : List Row) → All P before → All P (before ++ r ∷ drop place ordered)
    put [] h = All-cons P r (drop place ordered) own behind
    put (s ∷ before) h = All-cons P s (before ++ r ∷ drop place ordered) (All-head P s before h) (put before (All-tail P s before h))

pub met_in_order : (columns col : ℕ) (ordered rows : List Row) (numbers : List ℤ) → All (Has ordered) rows
    → AreMetAmong columns col ordered numbers → AreMetAmong columns col rows numbers
met_in_order columns col ordered rows numbers all met point x w = Any-weaker (λ n. HoldAt ordered col point (x +ℤ n))
    (λ n. HoldAt rows col point (x +ℤ n)) (λ n held i d k. own n held (get_or rows i d) (all i d k)) numbers (met point x w)
  where
    own : (n : ℤ) → HoldAt ordered col point (x +ℤ n) → (r : Row) → Has ordered r → HoldsRow r (insert point col (x +ℤ n))
    own n held r has =
        let e = Any-element (λ q. q ≡ r) ordered has in
        subst (λ (q : Row). HoldsRow q (insert point col (x +ℤ n))) e.2 (All-contains (λ q. HoldsRow q (insert point col (x +ℤ n))) ordered e.0 held e.1)
