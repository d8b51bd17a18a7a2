-- What is left of systems without others, and without their last columns.
use Rattle.std.proofs.Common.{◌≡◌, ◌↔◌, refl, sym, ap, ◌∙◌, subst, arith, ℕ, ◌+◌, ◌-◌, ℤ, List, [], ◌∷◌, ◌++◌, append_assoc}
use Rattle.std.proofs.Common.{All, Any, IfSome, Option, Some, length, length-append, get_or, take, drop, take-append-drop}
use Rattle.std.proofs.lemmas.List.{length-drop, length-take-le}
use Rattle.isl_math.proofs.ListLaws.{All-last, Any-contains, Any-element, Any-first, Any-one, Any-weaker}
use Rattle.isl_meter.specs.Gauge.{Gauge, IsCharged}
use Rattle.isl_piece.specs.declared.system.System.{System}
use Rattle.isl_piece.specs.System.{HoldsSystem, IsSystemWithin, free_columns}
use Rattle.isl_elim.specs.Elimination.{HoldsAtAny}
use Rattle.isl_difference.specs.Difference.{IsDifference, IsOutside}
use Rattle.isl_difference.specs.Split.{IsLive}
use Rattle.isl_difference.proofs.SplitLaws.{charged_within, system_kept}
use Rattle.isl_remainder.proofs.LimitLaws.{charged_bits}
use Rattle.isl_blocks.specs.Left.{HoldsBefore, IsLeftWithout}
use Rattle.isl_remainder.specs.declared.over.Remainder.{Remainder}
use Rattle.isl_remainder.specs.Made.{AreMade}
use Rattle.isl_remainder.specs.Over.{GivesLast, HoldsGiven, HoldsLong, HoldsLongBefore, IsAcross, IsLeftOver, IsPlainRemainder, IsReduced}
use Rattle.isl_remainder.specs.Over.{IsRemainder, IsShortened, Remains}

abbrev pub IsPlainSystem : System → Type 0
IsPlainSystem s = s.definitions ≡ []

pub across_later : (g h : Gauge) (columns : ℕ) (s : System) → IsCharged g h → IsAcross g columns s → IsAcross h columns s
across_later g h columns s charged is = record { free = is.free; within = charged_within g h s charged is.within }

pub across_before : (g h : Gauge) (columns : ℕ) (s : System) → IsCharged g h → IsAcross h columns s → IsAcross g columns s
across_before g h columns s charged is =
    record { free = is.free; within = system_kept g h s (sym (charged_bits g h charged)) is.within }

pub remainder_later : (g h : Gauge) (kept : ℕ) (r : Remainder) → IsCharged g h → IsRemainder g kept r → IsRemainder h kept r
remainder_later g h kept r charged is = record {
  system = across_later g h (kept + r.count) r.system charged is.system;
  others = λ k d l. across_later g h (kept + r.count) (get_or r.others.items k d) charged (is.others k d l);
}

-- ---- one number behind a point
one_long : (l : List ℤ) → length l ≡ 1 → (x : ℤ) × (l ≡ x ∷ [])
one_long [] e = absurd (omega (arith, e))
one_long (x ∷ []) e = (x, refl)
one_long (x ∷ (y ∷ l)) e = absurd (omega (arith, e))

pub before_one : (s : System) (point : List ℤ) → HoldsBefore s 1 point ↔ ((x : ℤ) × HoldsSystem s (point ++ x ∷ []))
before_one s point = (
  (λ h. let x = one_long h.0 h.1 in (x.0, subst (λ (l : List ℤ). HoldsSystem s (point ++ l)) x.1 h.2)),
  (λ k. (k.0 ∷ [], refl, k.1)),
)

long_one : (point : List ℤ) (x : ℤ) (columns : ℕ) → length point ≡ columns → length (point ++ x ∷ []) ≡ columns + 1
long_one point x columns l = let both = length-append point (x ∷ []) in omega (arith, both, l)

-- the last of the numbers
last_of : (l : List ℤ) (n : ℕ) → length l ≡ n + 1 → (a : List ℤ) × (x : ℤ) × (length a ≡ n) × (l ≡ a ++ x ∷ [])
last_of l n e =
    let d = length-drop n l in
    let x = one_long (drop n l) (omega (arith, d, e)) in
    (take n l, x.0, length-take-le n l (omega (arith, e)), sym (take-append-drop n l) ∙ ap (λ r. take n l ++ r) x.1)

-- ---- without the last column
module _ (g : Gauge) (columns : ℕ) (other one both : System) (systems : List System)
    (is : IsAcross g (columns + 1) other) (gives : IsAcross g (columns + 1) one)
    (met : (point : List ℤ) → length point ≡ free_columns other
    → HoldsSystem both point ↔ (HoldsSystem other point × HoldsSystem one point))
    (left : (point : List ℤ) → length point ≡ columns → HoldsAtAny systems point ↔ HoldsBefore both 1 point) where
  pub given_has : (point : List ℤ) → Any (HoldsLong columns point) systems ↔ HoldsGiven one columns point other
  given_has point = (
    (λ a.
        let l = (Any-element (HoldsLong columns point) systems a).2.long in
        let some = (before_one both point).0 ((left point l).0 (Any-weaker (HoldsLong columns point) (λ s. HoldsSystem s point)
        (λ s h. h.holds) systems a)) in
        let two = (met (point ++ some.0 ∷ []) (long_one point some.0 columns l ∙ sym is.free)).0 some.1 in
        record { long = l; number = some.0; holds = two.0; given = two.1 }),
    (λ h.
        let here = (met (point ++ h.number ∷ []) (long_one point h.number columns h.long ∙ sym is.free)).1 (h.holds, h.given) in
        Any-weaker (λ s. HoldsSystem s point) (HoldsLong columns point) (λ s x. record { long = h.long; holds = x }) systems
        ((left point h.long).1 ((before_one both point).1 (h.number, here)))),
  )

  pub given_made : All (λ s. free_columns s ≡ columns) systems → All (IsSystemWithin g) systems
      → (IsPlainSystem both → All IsPlainSystem systems) → (S : Type 0) → (S → IsPlainSystem both)
      → AreMade (HoldsLong columns) (IsAcross g columns) IsPlainSystem S (λ point. HoldsGiven one columns point other) systems
  given_made free within plain S simple = record {
    has = given_has;
    sound = λ k d l. record { free = free k d l; within = within k d l };
    plain = λ s. plain (simple s);
  }

one_system : (l : List System) → length l ≡ 1 → (s : System) × (l ≡ s ∷ [])
one_system [] e = absurd (omega (arith, e))
one_system (s ∷ []) e = (s, refl)
one_system (s ∷ (t ∷ l)) e = absurd (omega (arith, e))

-- the one system that is left without the last column
pub shortened_made : (g : Gauge) (columns : ℕ) (s : System) (parts : List System) (found : Option System) (n : ℕ)
    → length parts ≡ 1 → n ≡ 1 → ((d : System) → found ≡ Some (get_or parts (n - 1) d))
    → ((point : List ℤ) → length point ≡ columns → HoldsAtAny parts point ↔ HoldsBefore s 1 point)
    → All (λ t. free_columns t ≡ columns) parts → All (IsSystemWithin g) parts → (IsPlainSystem s → All IsPlainSystem parts)
    → IfSome found (IsShortened g columns s)
shortened_made g columns s parts found n few count value points free within plain =
    let one = one_system parts few in
    let new = one.0 in
    let is : found ≡ Some new =
    subst (λ m. found ≡ Some (get_or parts (m - 1) new)) count (value new) ∙ ap (λ (l : List System). Some (get_or l 0 new)) one.1 in
    subst (λ f. IfSome f (IsShortened g columns s)) (sym is) (record {
      across = record {
        free = (All-last (λ t. free_columns t ≡ columns) [] new (subst (All (λ t. free_columns t ≡ columns)) one.1 free)).1;
        within = (All-last (IsSystemWithin g) [] new (subst (All (IsSystemWithin g)) one.1 within)).1;
      };
      points = λ point l.
          let a = points point l in
          let b = before_one s point in (
            (λ h. b.0 (a.0 (subst (λ (ts : List System). HoldsAtAny ts point) (sym one.1)
                (Any-first (λ t. HoldsSystem t point) new [] h)))),
            (λ k. Any-one (λ t. HoldsSystem t point) new (subst (λ (ts : List System). HoldsAtAny ts point) one.1 (a.1 (b.1 k)))),
          );
      definitions = λ none. (All-last IsPlainSystem [] new (subst (All IsPlainSystem) one.1 (plain none))).1;
    })

-- ---- a column less
module _ (g : Gauge) (kept columns : ℕ) (old new : Remainder) (one : System) (counts : new.count + 1 ≡ old.count)
    (wide : columns ≡ kept + new.count) (is : IsRemainder g kept old) (gives : GivesLast g old.system one)
    (short : IsShortened g columns old.system new.system) (S : Type 0)
    (others : AreMade (HoldsLong columns) (IsAcross g columns) IsPlainSystem S
    (λ point. Any (HoldsGiven one columns point) old.others.items)
    new.others.items) where
  free : free_columns old.system ≡ columns + 1
  free = let f = is.system.free in omega (arith, f, counts, wide)

  -- at one number
  here : (q : List ℤ) (x : ℤ) → length q ≡ columns → HoldsSystem old.system (q ++ x ∷ [])
      → HoldsAtAny new.others.items q ↔ HoldsAtAny old.others.items (q ++ x ∷ [])
  here q x l holds =
      let f = free in
      let given = gives.holds (q ++ x ∷ []) (long_one q x columns l ∙ sym f) holds in (
        (λ a.
            let some = (others.has q).0 (Any-weaker (λ s. HoldsSystem s q) (HoldsLong columns q) (λ s h. record { long = l; holds = h })
            new.others.items a) in
            Any-weaker (HoldsGiven one columns q) (λ s. HoldsSystem s (q ++ x ∷ []))
            (λ s h. subst (λ z. HoldsSystem s (q ++ z ∷ [])) (gives.sole q h.number x (omega (arith, l, f)) h.given given) h.holds)
            old.others.items some),
        (λ a. Any-weaker (HoldsLong columns q) (λ s. HoldsSystem s q) (λ s h. h.holds) new.others.items
            ((others.has q).1 (Any-weaker (λ s. HoldsSystem s (q ++ x ∷ [])) (HoldsGiven one columns q)
            (λ s h. record { long = l; number = x; holds = h; given = given }) old.others.items a))),
      )

  points : (point : List ℤ) → length point ≡ kept → Remains new point ↔ Remains old point
  points point l = (
    (λ h.
        let q = point ++ h.0 in
        let both = length-append point h.0 in
        let count = h.1 in
        let long : length q ≡ columns = omega (arith, both, l, count, wide) in
        let some = (short.points q long).0 h.2.0 in
        let same : q ++ some.0 ∷ [] ≡ point ++ (h.0 ++ some.0 ∷ []) = append_assoc point h.0 (some.0 ∷ []) in (
          h.0 ++ some.0 ∷ [],
          long_one h.0 some.0 new.count count ∙ counts,
          subst (IsOutside old.system old.others.items) same (some.1, λ a. h.2.1 ((here q some.0 long some.1).1 a)),
        )),
    (λ h.
        let parts = last_of h.0 new.count (h.1 ∙ sym counts) in
        let q = point ++ parts.0 in
        let both = length-append point parts.0 in
        let count = parts.2 in
        let long : length q ≡ columns = omega (arith, both, l, count, wide) in
        let same : point ++ h.0 ≡ q ++ parts.1 ∷ [] = ap (λ r. point ++ r) parts.3 ∙ sym (append_assoc point parts.0 (parts.1 ∷ [])) in
        let out = subst (IsOutside old.system old.others.items) same h.2 in (
          parts.0,
          count,
          ((short.points q long).1 (parts.1, out.0), λ a. out.1 ((here q parts.1 long out.0).0 a)),
        )),
  )

  pub one_less : (IsPlainRemainder old → S) → IsReduced g kept old new
  one_less plain = record {
    is = record {
      system = subst (λ n. IsAcross g n new.system) wide short.across;
      others = subst (λ n. All (IsAcross g n) new.others.items) wide others.sound;
    };
    points = points;
    plain = λ p. record { system = short.definitions p.system; others = others.plain (plain p) };
  }

pub reduced_itself : (g : Gauge) (kept : ℕ) (r : Remainder) → IsRemainder g kept r → IsReduced g kept r r
reduced_itself g kept r is = record { is = is; points = λ point l. ((λ h. h), (λ h. h)); plain = λ p. p }

pub reduced_more : (g h : Gauge) (kept : ℕ) (a b c : Remainder) → IsCharged g h → IsReduced g kept a b → IsReduced h kept b c
    → IsReduced g kept a c
reduced_more g h kept a b c charged one two = record {
  is = record {
    system = across_before g h (kept + c.count) c.system charged two.is.system;
    others = λ k d l. across_before g h (kept + c.count) (get_or c.others.items k d) charged (two.is.others k d l);
  };
  points = λ point l.
      let p = one.points point l in
      let q = two.points point l in
      ((λ x. p.0 (q.0 x)), (λ x. q.1 (p.1 x)));
  plain = λ p. two.plain (one.plain p);
}

-- ---- one system without its last columns
pub live_without_made : (g : Gauge) (s : System) (kept count : ℕ) (left : List System) → IsLeftWithout g s kept count left
    → AreMade (HoldsLong kept) (IsLive g kept) IsPlainSystem (IsPlainSystem s) (λ point. HoldsLongBefore kept count point s) left
live_without_made g s kept count left is = record {
  has = λ point. (
    (λ a.
        let l = (Any-element (HoldsLong kept point) left a).2.long in
        record {
          long = l;
          holds = (is.points point l).0 (Any-weaker (HoldsLong kept point) (λ t. HoldsSystem t point) (λ t h. h.holds) left a);
        }),
    (λ h. Any-weaker (λ t. HoldsSystem t point) (HoldsLong kept point) (λ t x. record { long = h.long; holds = x }) left
        ((is.points point h.long).1 h.holds)),
  );
  sound = is.live;
  plain = is.definitions;
}

-- ---- what is left
module _ (g h k : Gauge) (kept : ℕ) (asked short : Remainder) (parts left : List System) (one : IsReduced g kept asked short)
    (difference : IsDifference h short.system short.others.items parts)
    (plain : short.system.definitions ≡ [] → All IsPlainSystem short.others.items → All IsPlainSystem parts)
    (made : AreMade (HoldsLong kept) (IsLive k kept) IsPlainSystem (All IsPlainSystem parts)
    (λ point. Any (HoldsLongBefore kept short.count point) parts) left) where
  part_points : (point : List ℤ) → length point ≡ kept → Any (HoldsLongBefore kept short.count point) parts ↔ Remains short point
  part_points point l = (
    (λ a.
        let one_of = Any-element (HoldsLongBefore kept short.count point) parts a in
        let b = one_of.2.holds in
        let both = length-append point b.0 in
        let count = b.1 in
        let free = one.is.system.free in (
          b.0,
          count,
          (difference.points (point ++ b.0) (omega (arith, both, l, count, free))).0
              (Any-contains (λ s. HoldsSystem s (point ++ b.0)) parts one_of.0 one_of.1 b.2),
        )),
    (λ r.
        let both = length-append point r.0 in
        let count = r.1 in
        let free = one.is.system.free in
        Any-weaker (λ s. HoldsSystem s (point ++ r.0)) (HoldsLongBefore kept short.count point)
        (λ s x. record { long = l; holds = (r.0, count, x) }) parts
        ((difference.points (point ++ r.0) (omega (arith, both, l, count, free))).1 r.2)),
  )

  pub left_is : (All (IsLive k kept) left → All (IsLive g kept) left) → IsLeftOver g kept asked left
  left_is before = record {
    points = λ point l.
        let a = made.has point in
        let b = part_points point l in
        let c = one.points point l in (
          (λ x. c.0 (b.0 (a.0 (Any-weaker (λ s. HoldsSystem s point) (HoldsLong kept point)
              (λ s y. record { long = l; holds = y }) left x)))),
          (λ x. Any-weaker (HoldsLong kept point) (λ s. HoldsSystem s point) (λ s y. y.holds) left (a.1 (b.1 (c.1 x)))),
        );
    live = before made.sound;
    definitions = λ p. let q = one.plain p in made.plain (plain q.system q.others);
  }
