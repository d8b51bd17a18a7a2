-- One loop for several items: the systems behind so many columns, and what a loop around them says.
use Rattle.std.proofs.Common.{◌≡◌, refl, sym, ap, ◌∙◌, subst, arith, ℕ, ◌+◌, ◌-◌, ◌<◌, ◌≤◌, ℤ, List, [], ◌∷◌, ◌++◌, length, length-append}
use Rattle.std.proofs.Common.{get_or}
use Rattle.std.specs.Prelude.{map, Err, IfOk, MatchOption, None, Ok, Option, Result, Some}
use Rattle.std.specs.List.{All}
use Rattle.std.proofs.lemmas.List.{length-map}
use Rattle.std.proofs.lemmas.List.Elements.{All-nil, All-weaker}
use Rattle.isl_math.proofs.ListLaws.{Any-with}
use Rattle.isl_meter.specs.Gauge.{Gauge, IsCharged}
use Rattle.isl_meter.proofs.CutLemmas.{IsCharged_trans}
use Rattle.isl_meter.specs.declared.Cut.{Cut}
use Rattle.isl_piece.specs.declared.row.Row.{Row}
use Rattle.isl_piece.specs.Row.{HoldsRow, IsRowWithin, IsWellFormed}
use Rattle.isl_piece.specs.System.{HoldRows, widened}
use Rattle.isl_frame.specs.Frame.{column_at, columns_at, own_column}
use Rattle.isl_frame.specs.Needed.{AreRowsOver}
use Rattle.isl_frame.proofs.NeededLaws.{over_later}
use Rattle.isl_loop.specs.declared.tree.Loop.{Loop}
use Rattle.isl_loop.specs.Expr.{expr_value}
use Rattle.isl_loop.specs.Run.{each_in, trace}
use Rattle.isl_loop.specs.Turns.{turn_count}
use Rattle.isl_loop.proofs.TurnLaws.{from_up}
use Rattle.isl_bounds.specs.Bound.{HoldSome}
use Rattle.isl_bounds.specs.Ends.{AreEnded}
use Rattle.isl_nest.specs.Around.{turns_at, IsAround, IsAroundNothing, IsAroundOver}
use Rattle.isl_nest.specs.Covered.{view_of}
use Rattle.isl_nest.specs.Item.{IsBegun}
use Rattle.isl_nest.specs.Nest.{with_loop}
use Rattle.isl_nest.specs.Places.{IsPlace}
use Rattle.isl_nest.specs.declared.around.Around.{Around}
use Rattle.isl_nest.specs.declared.item.Item.{Item}
use Rattle.isl_nest.specs.declared.place.Place.{Place}
use Rattle.isl_nest.proofs.AroundLaws.{charged_bits}
use Rattle.isl_nest.proofs.LevelLaws.{level_ended}
use Rattle.isl_nest.proofs.PlaceLaws.{place_later, place_with_loop}
use Rattle.isl_loops.specs.Shared.{covers_behind, IsSharedLoop, IsSharedNothing}
use Rattle.isl_loops.specs.Together.{IsOver, ListsAll, SomeBegins}
use Rattle.isl_loops.proofs.CallLaws.{cover_over}
use Rattle.isl_loops.proofs.ListsLaws.{all_flat, any_flat}
use Rattle.isl_loops.proofs.TogetherLaws.{lists_shared}

module _ (g : Gauge) (params times columns : ℕ) (low : params ≤ columns) (inner : columns < params + times) where
  -- the item's systems over the columns and one more
  abbrev behind : Item → List (List Row)
  behind item = get_or item.covers.items (columns + 1 - params) []

  item_ended : (item : Item) → IsOver g params times item → All (AreEnded columns) (behind item)
  item_ended item is =
      let p = is.params_are in
      let t = is.times_are in
      let h = is.covered.is.times in
      level_ended g item is.covered columns (omega (arith, p, low)) (omega (arith, p, t, h, inner)) (behind item)
      (ap (λ n. get_or item.covers.items (columns + 1 - n) []) (sym p))

  module _ (items : List Item) (over : All (IsOver g params times) items) where
    pub systems_over : All (AreRowsOver g (columns + 1)) (covers_behind params columns items)
    systems_over = all_flat behind (AreRowsOver g (columns + 1)) items
        (All-weaker (IsOver g params times) (λ item. All (AreRowsOver g (columns + 1)) (behind item))
        (λ item is. (cover_over g params times item is columns low inner (behind item) refl).over) items over)

    pub systems_ended : All (AreEnded columns) (covers_behind params columns items)
    systems_ended = all_flat behind (AreEnded columns) items
        (All-weaker (IsOver g params times) (λ item. All (AreEnded columns) (behind item)) item_ended items over)

    -- wherever a point begins, a system holds
    begun_some : (front : List ℤ) → length front ≡ columns + 1 → SomeBegins items front
        → HoldSome (covers_behind params columns items) front
    begun_some front width some =
        any_flat behind (λ rows. HoldRows rows front) items
        (Any-with (λ (item : Item). IsBegun (view_of item) front) (IsOver g params times) (λ item. HoldSome (behind item) front)
        (λ item begun is. (cover_over g params times item is columns low inner (behind item) refl).begun front width begun) items over some)

module _ (g : Gauge) (params times : ℕ) (place : Place) (low : params ≤ length place.frame) (inner : length place.frame < params + times)
    (items : List Item) (over : All (IsOver g params times) items) (own : List Row) (bare : own ≡ []) (systems : List (List Row))
    (are : systems ≡ covers_behind params (length place.frame) items) where
  own_holds : (front : List ℤ) → HoldRows own front
  own_holds front = subst (λ (rows : List Row). HoldRows rows front) (sym bare) (All-nil (λ r. HoldsRow r front))

  some_holds : (point : List ℤ) (x : ℤ) → SomeBegins items (columns_at place.frame point ++ x ∷ [])
      → HoldSome systems (columns_at place.frame point ++ x ∷ [])
  some_holds point x begins =
      let front = columns_at place.frame point ++ x ∷ [] in
      let width : length front ≡ length place.frame + 1 =
      length-append (columns_at place.frame point) (x ∷ []) ∙ ap (λ n. n + 1) (length-map place.frame (column_at point)) in
      subst (λ (s : List (List Row)). HoldSome s front) (sym are)
      (begun_some g params times (length place.frame) low inner items over front width begins)

  pub shared_loop : (around : Around) → IsAround g place own systems around → IsSharedLoop g place items around
  shared_loop around is = record {
    over = is.over;
    cover = λ point x stands begins.
        (is.cover point x stands (own_holds (columns_at place.frame point ++ x ∷ [])) (some_holds point x begins)).0;
    known = is.known;
  }

  pub shared_nothing : IsAroundNothing place own systems → IsSharedNothing place items
  shared_nothing none point x stands begins =
      none point x stands (own_holds (columns_at place.frame point ++ x ∷ [])) (some_holds point x begins)

  pub shared_told : (r : Result (Option Around) Cut)
      → IfOk r (λ around. MatchOption around (IsAroundNothing place own systems) (IsAround g place own systems))
      → IfOk r (λ around. MatchOption around (IsSharedNothing place items) (IsSharedLoop g place items))
  shared_told (Ok None) told = shared_nothing told
  shared_told (Ok (Some around)) told = shared_loop around told
  shared_told (Err cut) told = told

pub no_rows_over : (g : Gauge) (variables : ℕ) (rows : List Row) → rows ≡ [] → AreRowsOver g variables rows
no_rows_over g variables rows e = rw e (record { formed = All-nil (IsWellFormed variables); within = All-nil (IsRowWithin g) })

-- ---- the place in the loop
pub inner_long : (place : Place) (rows : List Row) (inner : Place) → inner ≡ with_loop place rows
    → length inner.frame ≡ length place.frame + 1
inner_long place rows inner e =
    ap (λ (p : Place). length p.frame) e ∙ length-append (map widened place.frame) (own_column place.variables ∷ [])
    ∙ ap (λ n. n + 1) (length-map place.frame widened)

pub inner_place : (g h k : Gauge) (place : Place) (around : Around) (inner : Place) → IsPlace g place → IsCharged g h → IsCharged h k
    → 8 ≤ g.bits → IsAroundOver h place.variables around → inner ≡ with_loop place around.inside → IsPlace k inner
inner_place g h k place around inner is first second wide over e =
    let charged = IsCharged_trans g h k first second in
    let bits = charged_bits g k charged in
    subst (IsPlace k) (sym e)
    (place_with_loop k place (place_later g k place charged is) around.inside (omega (arith, bits, wide))
    (over_later h k (place.variables + 1) around.inside second over.inside))

-- the body in the loop lists the calls of all items
pub shared_lists : (g h : Gauge) (params times : ℕ) (items : List Item) (place : Place) (around : Around) (tree body : Loop)
    → All (IsOver g params times) items → params ≤ length place.frame → length place.frame < params + times → IsPlace g place
    → IsSharedLoop h place items around
    → ((point : List ℤ) → length point ≡ place.variables
    → trace tree point ≡ each_in (λ x. trace body (point ++ x ∷ [])) (turns_at around.head point))
    → ListsAll items (with_loop place around.inside) body → ListsAll items place tree
shared_lists g h params times items place around tree body over low inner is shared calls lists =
    lists_shared g params times items place (turns_at around.head) around.inside tree body over low inner is.frame is.context.formed
    (λ point. from_up (expr_value around.head.low point) around.head.step
    (turn_count (expr_value around.head.low point) (expr_value around.head.high point) around.head.step) shared.over.positive)
    shared.cover shared.known calls lists
