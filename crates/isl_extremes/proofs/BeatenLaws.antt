-- Where other lists are ahead, as systems say it.
use Rattle.std.proofs.Common.{◌≡◌, ◌↔◌, sym, ap, ◌∙◌, subst, arith, ℕ, ◌+◌, ◌≤◌, ℤ, List, [], ◌∷◌, ◌++◌, append-nil, append_assoc}
use Rattle.std.proofs.Common.{length, length-append, Result, IfOk}
use Rattle.isl_math.proofs.ListLaws.{Any-first, Any-one}
use Rattle.isl_meter.specs.Gauge.{Gauge}
use Rattle.isl_piece.specs.declared.system.System.{System}
use Rattle.isl_piece.specs.System.{HoldsSystem, IsSystemWithin, free_columns}
use Rattle.isl_piece.specs.Meet.{over_same_columns}
use Rattle.isl_blocks.specs.Blocks.{numbers_of, picked, widths_of, IsSpread}
use Rattle.isl_blocks.specs.Cases.{DiffersAt, IsCaseOf}
use Rattle.isl_blocks.specs.Left.{IsLeftWithout}
use Rattle.isl_blocks.proofs.ResultLaws.{ok_case, ok_has}
use Rattle.isl_extremes.specs.declared.systems.Order.{Order}
use Rattle.isl_extremes.specs.Beaten.{IsWithAhead}
use Rattle.isl_extremes.specs.Systems.{AreBeaten}

-- the front, and two lists
abbrev pub widths_in : Order → List ℕ
widths_in order = order.front ∷ order.width ∷ order.width ∷ []

abbrev pub second_pick : List ℕ
second_pick = 0 ∷ 2 ∷ []

module _ (g : Gauge) (order : Order) (at : ℕ) (s : System) (bits : 8 ≤ g.bits) (within : IsSystemWithin g s) (moved case : System)
    (spreads : IsSpread g (widths_in order) second_pick s moved) (cases : IsCaseOf (widths_in order) 2 1 (DiffersAt order.direction at)
    case)
  where
    abbrev Both : System → Type 0
    Both both =
        ((point : List ℤ) → length point ≡ free_columns moved → HoldsSystem both point ↔ (HoldsSystem moved point × HoldsSystem case point))

    ahead_from : (both : System) → Both both → IsSystemWithin g both → free_columns both ≡ free_columns moved
        → (moved.definitions ≡ case.definitions → both ≡ over_same_columns moved case) → IsWithAhead g order at s both
    ahead_from both points in_limit free same = record {
      points = λ front ys zs fl yl zl.
          let blocks : List (List ℤ) = front ∷ ys ∷ zs ∷ [] in
          let widths : widths_of blocks ≡ widths_in order = cc in
          let whole : numbers_of blocks ≡ front ++ (ys ++ zs) = ap (λ q. front ++ (ys ++ q)) (append-nil zs) in
          let some : picked second_pick blocks ≡ front ++ zs = ap (λ q. front ++ q) (append-nil zs) in
          let a = length-append front (ys ++ zs) in
          let b = length-append ys zs in
          let n = spreads.free in
          let both_hold = points (front ++ (ys ++ zs)) (omega (arith, a, b, n, fl, yl, zl)) in
          let one = spreads.points blocks widths in
          let two = cases.points blocks widths in (
            (λ h.
                let k = both_hold.0 h in (
                  subst (HoldsSystem s) some (one.0 (subst (HoldsSystem moved) (sym whole) k.0)),
                  two.0 (subst (HoldsSystem case) (sym whole) k.1),
                )),
            (λ k. both_hold.1 (
              subst (HoldsSystem moved) whole (one.1 (subst (HoldsSystem s) (sym some) k.0)),
              subst (HoldsSystem case) whole (two.1 k.1),
            )),
          );
      within = in_limit;
      free = let n = spreads.free in omega (arith, n, free);
      plain = λ none.
          let is = spreads.definitions none in
          ap (λ (t : System). t.definitions) (same (is ∙ sym cases.definitions)) ∙ is;
    }

    pub ahead_made : {E : Type 0} (made : Result System E)
        → ((k : Gauge) (point : List ℤ) → IsSystemWithin k moved → IsSystemWithin k case → length point ≡ free_columns moved
        → IfOk made (λ both. HoldsSystem both point ↔ (HoldsSystem moved point × HoldsSystem case point)))
        → ((k : Gauge) → IsSystemWithin k moved → IsSystemWithin k case → IfOk made (IsSystemWithin k))
        → ((k : Gauge) → IsSystemWithin k moved → IsSystemWithin k case → IfOk made (λ both. free_columns both ≡ free_columns moved))
        → (moved.definitions ≡ case.definitions → IfOk made (λ both. both ≡ over_same_columns moved case))
        → IfOk made (IsWithAhead g order at s)
    ahead_made made points in_limit free same =
        let m = spreads.within in
        let k = cases.within g bits in
        ok_case made (IsWithAhead g order at s) (λ both is. ahead_from both
        (λ point l. ok_has made both (λ t. HoldsSystem t point ↔ (HoldsSystem moved point × HoldsSystem case point)) is
        (points g point m k l))
        (ok_has made both (IsSystemWithin g) is (in_limit g m k)) (ok_has made both (λ t. free_columns t ≡ free_columns moved) is
        (free g m k))
        (λ e. ok_has made both (λ t. t ≡ over_same_columns moved case) is (same e)))

pub beaten_from : (g : Gauge) (order : Order) (at : ℕ) (s both : System) (found : List System) → s.definitions ≡ []
    → IsWithAhead g order at s both → IsLeftWithout g both (order.front + order.width) order.width found
    → AreBeaten g order at (s ∷ []) found
beaten_from g order at s both found plain ahead left = record {
  are = record { live = left.live; plain = left.definitions (ahead.plain plain) };
  points = λ front ys fl yl.
      let n = length-append front ys in
      let here = left.points (front ++ ys) (omega (arith, n, fl, yl)) in (
        (λ a.
            let some = here.0 a in
            let both_hold = (ahead.points front ys some.0 fl yl some.1).0 (subst (HoldsSystem both) (append_assoc front ys some.0) some.2)
            in
            (some.0, (some.1, Any-first (λ t. HoldsSystem t (front ++ some.0)) s [] both_hold.0), both_hold.1)),
        (λ h. here.1 (
          h.0,
          h.1.0,
          subst (HoldsSystem both) (sym (append_assoc front ys h.0))
              ((ahead.points front ys h.0 fl yl h.1.0).1 (Any-one (λ t. HoldsSystem t (front ++ h.0)) s h.1.1, h.2)),
        )),
      );
}
