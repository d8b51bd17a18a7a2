-- Whether the number at a place ends on a side, told by systems without the columns behind it.
use Rattle.std.proofs.Common.{◌≡◌, ◌↔◌, inl, inr, refl, sym, ap, ◌∙◌, subst, arith, ℕ, ◌+◌, ◌-◌, ◌<◌, ℤ, pos, ◌≤ℤ◌, ◌<ℤ◌}
use Rattle.std.proofs.Common.{Bool, List, [], ◌∷◌, ◌++◌, append_assoc, length, length-append, get_or, take, drop, take-append-drop}
use Rattle.std.specs.Prelude.{IsTrue}
use Rattle.std.specs.List.{All, Any, range_with_len}
use Rattle.std.proofs.lemmas.List.{get_or-append-add, length-drop, length-take-le, length_push, take_all, take_at, take_more}
use Rattle.std.proofs.lemmas.List.Elements.{All-cons, All-head, All-nil, All-tail}
use Rattle.isl_math.proofs.Ring.{linear}
use Rattle.isl_math.proofs.ListLaws.{Any-cases, Any-contains, Any-none, Any-weaker}
use Rattle.isl_math.proofs.OrderLaws.{at_most_or_above}
use Rattle.isl_meter.specs.Gauge.{Gauge}
use Rattle.isl_piece.specs.declared.system.System.{System}
use Rattle.isl_piece.specs.System.{HoldsSystem, IsSystemWithin, free_columns}
use Rattle.isl_elim.specs.Elimination.{HoldsAtAny, IsProjectionAlong}
use Rattle.std.proofs.lemmas.List.Elements.{Contains-get_or}
use Rattle.isl_blocks.proofs.LeftLaws.{left_columns, left_points}
use Rattle.isl_extremes.specs.declared.systems.Order.{Order}
use Rattle.isl_extremes.specs.Systems.{signed, AreAnswered, IsClosedOn, IsEnded, NeverFalls}
use Rattle.isl_extremes.proofs.FallLaws.{bounded_on, goes_on}

-- the least of the numbers that bound what belongs to elements of a list
pub lowest : {X : Type 0} (P : X → ℤ → Type 0) (xs : List X) → All (λ x. (b : ℤ) × ((y : ℤ) → P x y → b ≤ℤ y)) xs
    → (b : ℤ) × ((y : ℤ) → Any (λ x. P x y) xs → b ≤ℤ y)
lowest P [] all = (pos 0, λ y some. absurd (Any-none (λ x. P x y) some))
lowest P (x ∷ xs) all =
    let B : _ → Type 0 = λ z. (b : ℤ) × ((y : ℤ) → P z y → b ≤ℤ y) in
    let first = All-head B x xs all in
    let rest = lowest P xs (All-tail B x xs all) in
    elim (at_most_or_above first.0 rest.0) [
      | inl l ↦ (
        first.0,
        λ y some. elim (Any-cases (λ z. P z y) x xs some) [
          | inl here ↦ first.1 y here
          | inr later ↦ let m = rest.1 y later in omega (arith, linear)
        ],
      )
      | inr g ↦ (
        rest.0,
        λ y some. elim (Any-cases (λ z. P z y) x xs some) [
          | inl here ↦ let m = first.1 y here in omega (arith, linear)
          | inr later ↦ rest.1 y later
        ],
      )
    ]

-- no element is without P, and so not all together are
pub all_together : {X : Type 0} (P : X → Type 0) (xs : List X) → All (λ x. ¬ (¬ P x)) xs → ¬ (¬ All P xs)
all_together P [] h n = n (All-nil P)
all_together P (x ∷ xs) h n = All-head (λ y. ¬ (¬ P y)) x xs h
    (λ p. all_together P xs (All-tail (λ y. ¬ (¬ P y)) x xs h) (λ ps. n (All-cons P x xs p ps)))

-- ---- a number between others
between_long : (before behind : List ℤ) (x : ℤ) → length (before ++ x ∷ behind) ≡ length before + 1 + length behind
between_long before behind x = let n = length-append before (x ∷ behind) in omega (arith, n)

between_take : (before behind : List ℤ) (x : ℤ) (at : ℕ) → length before ≡ at → take at (before ++ x ∷ behind) ≡ before
between_take before behind x at l = take_at before (x ∷ behind) at l

between_number : (before behind : List ℤ) (x : ℤ) (at : ℕ) → length before ≡ at → get_or (before ++ x ∷ behind) at (pos 0) ≡ x
between_number before behind x at l =
    let n : at ≡ length before + 0 = omega (arith, l) in
    ap (λ k. get_or (before ++ x ∷ behind) k (pos 0)) n ∙ get_or-append-add before (x ∷ behind) 0 (pos 0)

between_join : (front before behind : List ℤ) (x : ℤ) → front ++ (before ++ x ∷ behind) ≡ ((front ++ before) ++ x ∷ []) ++ behind
between_join front before behind x =
    sym (append_assoc front before (x ∷ behind)) ∙ sym (append_assoc (front ++ before) (x ∷ []) behind)

between_split : (ys : List ℤ) (at : ℕ) → at < length ys → ys ≡ take at ys ++ get_or ys at (pos 0) ∷ drop (at + 1) ys
between_split ys at l =
    sym (take-append-drop (at + 1) ys) ∙ ap (λ zs. zs ++ drop (at + 1) ys) (take_more ys at (pos 0) l)
    ∙ append_assoc (take at ys) (get_or ys at (pos 0) ∷ []) (drop (at + 1) ys)

last_split : (xs : List ℤ) (n : ℕ) → length xs ≡ n + 1 → xs ≡ take n xs ++ get_or xs n (pos 0) ∷ []
last_split xs n l = sym (take_all (n + 1) xs (omega (arith, l))) ∙ take_more xs n (pos 0) (omega (arith, l))

-- ---- without the columns behind the place
module _ (g : Gauge) (order : Order) (at : ℕ) (s : System) (free : free_columns s ≡ order.front + order.width) (inside : at < order.width)
    (cols : List ℕ) (are : cols ≡ range_with_len (order.front + at + 1) (free_columns s - (order.front + at + 1))) (left : List System)
    (projection : IsProjectionAlong s cols left) (within : All (IsSystemWithin g) left) (plain : All (λ t. t.definitions ≡ []) left) where
  parts : free_columns s ≡ (order.front + at + 1) + (free_columns s - (order.front + at + 1))
  parts = omega (arith, free, inside)

  pub shadow_columns : All (λ t. free_columns t ≡ order.front + at + 1) left
  shadow_columns = left_columns s (order.front + at + 1) (free_columns s - (order.front + at + 1)) parts cols are left projection

  -- some of the systems holds where some numbers behind make a point
  points : (point : List ℤ) → length point ≡ order.front + at + 1
      → HoldsAtAny left point ↔ ((behind : List ℤ) × (length behind ≡ free_columns s - (order.front + at + 1)) × HoldsSystem s
      (point ++ behind))
  points = left_points s (order.front + at + 1) (free_columns s - (order.front + at + 1)) parts cols are left projection

  pub ended_from : All (IsClosedOn order.direction) left → IsEnded order at s
  ended_from closed front before front_long before_long =
      let q = front ++ before in
      let q_long = length-append front before in
      let P : System → ℤ → Type 0 = λ t y. (x : ℤ) × (signed order.direction x ≡ y) × HoldsSystem t (q ++ x ∷ []) in
      let each : All (λ t. (b : ℤ) × ((y : ℤ) → P t y → b ≤ℤ y)) left = λ k e l.
      let t = get_or left k e in
      let c = shadow_columns k e l in
      let one = bounded_on order.direction g t (within k e l) (plain k e l) (closed k e l) q
      (omega (arith, c, q_long, front_long, before_long)) in
      (one.0, λ y h. subst (λ z. one.0 ≤ℤ z) h.1 (one.1 h.0 h.2)) in
      let all = lowest P left each in (
        all.0,
        λ ys long same h.
            let x = get_or ys at (pos 0) in
            let behind = drop (at + 1) ys in
            let rest = length-drop (at + 1) ys in
            let whole : front ++ ys ≡ (q ++ x ∷ []) ++ behind =
            ap (λ zs. front ++ zs) (between_split ys at (omega (arith, long, inside)) ∙ ap (λ zs. zs ++ x ∷ behind) same)
            ∙ between_join front before behind x in
            let push = length_push q x in
            let some = (points (q ++ x ∷ []) (omega (arith, push, q_long, front_long, before_long))).1
            (behind, omega (arith, rest, long, free), subst (HoldsSystem s) whole h) in
            all.1 (signed order.direction x) (Any-weaker (λ t. HoldsSystem t (q ++ x ∷ [])) (λ t. P t (signed order.direction x))
            (λ t k. (x, refl, k)) left some),
      )

  -- a system that is not closed has no point, where the numbers never fall
  nowhere : NeverFalls order at s → (k : ℕ) (e : System) (l : k < length left) → ¬ IsClosedOn order.direction (get_or left k e)
      → (point : List ℤ) → length point ≡ free_columns (get_or left k e) → ¬ HoldsSystem (get_or left k e) point
  nowhere never k e l unclosed point long h =
      let t = get_or left k e in
      let c = shadow_columns k e l in
      let n = order.front + at in
      let same = last_split point n (omega (arith, long, c)) in
      let q = take n point in
      let x = get_or point n (pos 0) in
      let q_long : length q ≡ n = length-take-le n point (omega (arith, long, c)) in
      let front = take order.front q in
      let before = drop order.front q in
      let front_long : length front ≡ order.front = length-take-le order.front q (omega (arith, q_long)) in
      let dropped = length-drop order.front q in
      let before_long : length before ≡ at = omega (arith, dropped, q_long) in
      let cut : front ++ before ≡ q = take-append-drop order.front q in
      let lift : (y : ℤ) → HoldsSystem t (q ++ y ∷ []) → (behind : List ℤ) × (length behind ≡ free_columns s - (order.front + at + 1))
      × HoldsSystem s (front ++ (before ++ y ∷ behind)) = λ y holds.
      let push = length_push q y in
      let some = (points (q ++ y ∷ []) (omega (arith, push, q_long))).0
      (Any-contains (λ u. HoldsSystem u (q ++ y ∷ [])) left t (Contains-get_or left k e l) holds) in
      let whole : (q ++ y ∷ []) ++ some.0 ≡ front ++ (before ++ y ∷ some.0) =
      ap (λ zs. (zs ++ y ∷ []) ++ some.0) (sym cut) ∙ sym (between_join front before some.0 y) in
      (some.0, some.1, subst (HoldsSystem s) whole some.2) in
      let wide : (y : ℤ) (behind : List ℤ) → length behind ≡ free_columns s - (order.front + at + 1)
      → length (before ++ y ∷ behind) ≡ order.width = λ y behind m.
      let b = between_long before behind y in omega (arith, b, before_long, m, free, inside) in
      let own = lift x (subst (HoldsSystem t) same h) in
      let first = between_take before own.0 x at before_long in
      never front (before ++ x ∷ own.0) front_long (wide x own.0 own.1) own.2 (λ b.
      let y = goes_on order.direction g t (within k e l) (plain k e l) (λ end. unclosed (inl end)) q x b (omega (arith, q_long, c))
      (subst (HoldsSystem t) same h) in
      let more = lift y.0 y.2 in (
        before ++ y.0 ∷ more.0,
        wide y.0 more.0 more.1,
        between_take before more.0 y.0 at before_long ∙ sym first,
        more.2,
        subst (λ z. signed order.direction z <ℤ b) (sym (between_number before more.0 y.0 at before_long)) y.1,
      ))

  pub falls_from : ¬ All (IsClosedOn order.direction) left → ¬ NeverFalls order at s
  falls_from unclosed never = all_together (IsClosedOn order.direction) left
      (λ k e l not_closed. not_closed (inr (nowhere never k e l not_closed))) unclosed

  -- the answer of one system
  pub answered : (answer : Bool) → (IsTrue answer ↔ All (IsClosedOn order.direction) left) → AreAnswered order at (s ∷ []) answer
  answered answer exact = record {
    ended = λ t. All-cons (IsEnded order at) s [] (ended_from (exact.0 t)) (All-nil (IsEnded order at));
    falls = λ n all. falls_from (λ closed. n (exact.1 closed)) (All-head (NeverFalls order at) s [] all);
  }
