-- Nests of loops over strided rows have no idle turn.
use Rattle.std.proofs.Common.{◌≡◌, ◌≢◌, ◌∙◌, inl, inr, refl, sym, ap, subst, arith, true, ℕ, zero, suc, ◌+◌, ◌*◌, ◌≤◌}
use Rattle.std.proofs.Common.{ℤ, List, [], ◌∷◌, ◌++◌, append_assoc, append-nil, length, length-append}
use Rattle.std.specs.Prelude.{if◌then◌else◌, map}
use Rattle.std.specs.List.{All, Contains, sum_by}
use Rattle.std.proofs.lemmas.List.{length-map}
use Rattle.isl_math.proofs.ListLaws.{All-parts}
use Rattle.isl_piece.specs.declared.row.Row.{Row}
use Rattle.isl_piece.specs.Row.{IsWellFormed}
use Rattle.isl_piece.specs.System.{HoldRows, widened}
use Rattle.isl_frame.specs.Frame.{column_at, columns_at, own_column}
use Rattle.isl_loop.specs.Run.{each_in, idle_of, rows_hold, trace, turns_of, Event}
use Rattle.isl_loop.proofs.RowLaws.{rows_tell}
use Rattle.isl_nest.specs.declared.nested.Nested.{Nested}
use Rattle.isl_nest.specs.declared.place.Place.{Place}
use Rattle.isl_nest.specs.Covered.{IsItem}
use Rattle.isl_nest.specs.Item.{HoldFront, IsBegun, ItemView}
use Rattle.isl_nest.specs.Nest.{with_entry, with_loop, IsFixedAt, IsHere, IsLoopedAt, IsLoopOf, IsNest}
use Rattle.isl_nest.specs.TurnsAt.{idle_at_turn, turns_at_turn}
use Rattle.isl_nest.proofs.BehindLaws.{begun_next}
use Rattle.isl_nest.proofs.CallLaws.{front_holds}
use Rattle.isl_nest.proofs.FixedLaws.{front_more, here_entry, hold_true}
use Rattle.isl_nest.proofs.LoopedLaws.{here_inside}
use Rattle.isl_nest.specs.Busy.{IsBusy}
use Rattle.isl_nest.specs.Strided.{IsStrided}
use Rattle.isl_nest.proofs.FormLaws.{entry_forms, level_striding, loop_forms, LaterNameForms}
use Rattle.isl_nest.proofs.SumLaws.{some_each, some_idle, some_length, sum_most, sum_none}

-- ---- points
-- first numbers that the rows let be begin a point
pub strided_begun : (item : ItemView) → IsItem item → IsStrided item.params item.levels item.rows → (left : ℕ) (front : List ℤ)
    → length front + left ≡ item.params + item.levels → item.params ≤ length front → HoldFront item.rows front → IsBegun item front
strided_begun item is strided zero front whole low holds =
    let none : front ++ [] ≡ front = append-nil front in
    let long : length front ≡ item.params + item.levels = omega (arith, whole) in
    record {
      rest = [];
      width = ap length none ∙ long;
      holds = subst (HoldRows item.rows) (sym none)
          (front_holds item.rows front (subst (λ n. All (IsWellFormed n) item.rows) (sym long) is.formed) holds);
    }
strided_begun item is strided (suc left) front whole low holds =
    let next = strided.next front low (omega (arith, whole)) holds in
    let x = next.0 in
    let long = length-append front (x ∷ []) in
    let more = front_more item.rows front x holds next.1 in
    let begun = strided_begun item is strided left (front ++ x ∷ []) (omega (arith, whole, long)) (omega (arith, low, long)) more in
    let same = append_assoc front (x ∷ []) begun.rest in
    record {
      rest = x ∷ begun.rest;
      width = ap length (sym same) ∙ begun.width;
      holds = subst (HoldRows item.rows) same begun.holds;
    }

module _ (item : ItemView) (is : IsItem item) (strided : IsStrided item.params item.levels item.rows) (left : ℕ) (place : Place)
    (whole : length place.frame + suc left ≡ item.params + item.levels) (low : item.params ≤ length place.frame) (point : List ℤ)
    (here : IsHere item place point) where
  -- a next number begins a point
  begun_here : (x : ℤ) × IsBegun item (columns_at place.frame point ++ x ∷ [])
  begun_here =
      let columns = columns_at place.frame point in
      let long : length columns ≡ length place.frame = length-map place.frame (column_at point) in
      begun_next item columns (omega (arith, long, whole))
      (strided_begun item is strided (suc left) columns (omega (arith, long, whole)) (omega (arith, long, low)) here.front)

  -- ---- a column that an equality tells
  module _ (nested : Nested) (entry : Row) (rows more : List Row) (fixed : IsFixedAt item place entry rows) (split : nested.rows ≡ rows ++ more) where
    fixed_rows : HoldRows rows point
    fixed_rows = (fixed.only point begun_here.0 here begun_here.1).1

    fixed_here : IsHere item (with_entry place entry rows) point
    fixed_here = here_entry item place entry rows fixed point here fixed_rows

    pub busy_fixed : IsBusy left (record { rows = more; tree = nested.tree; inside = nested.inside }) point → IsBusy (suc left) nested point
    busy_fixed busy = record {
      asked =
          let held = (rows_tell rows point (λ k d l. (fixed.formed k d l).modulus)).1 fixed_rows in
          ap (λ (rs : List Row). rows_hold rs point) split ∙ hold_true rows more point held ∙ busy.asked;
      some = busy.some;
      idle = busy.idle;
      turned = let few = busy.turned in by (turns_of nested.tree point) (length (trace nested.tree point)) few;
    }
      where
        by : (t l : ℕ) → t ≤ left * l → t ≤ suc left * l
        by t l few = omega (arith, few)

  -- ---- a column that a loop goes through
  module _ (nested body : Nested) (turns : List ℤ → List ℤ) (guards : List Row)
      (looped : IsLoopedAt item place turns nested.inside guards) (bare : nested.rows ≡ [])
      (loop : IsLoopOf item place nested.tree turns (guards ++ body.rows) body.tree)
      (full : (x : ℤ) → Contains (turns point) x → HoldRows guards (point ++ x ∷ []))
      (inner : (x : ℤ) → Contains (turns point) x → IsBusy left body (point ++ x ∷ [])) where
    rows : List Row
    rows = guards ++ body.rows

    calls : ℤ → List Event
    calls x = if rows_hold (guards ++ body.rows) (point ++ x ∷ []) then trace body.tree (point ++ x ∷ []) else []

    asked : (x : ℤ) → Contains (turns point) x → rows_hold (guards ++ body.rows) (point ++ x ∷ []) ≡ true
    asked x turn =
        let formed = (All-parts (IsWellFormed (place.variables + 1)) nested.inside guards looped.formed.1).1 in
        let held = (rows_tell guards (point ++ x ∷ []) (λ k d l. (formed k d l).modulus)).1 (full x turn) in
        hold_true guards body.rows (point ++ x ∷ []) held ∙ (inner x turn).asked

    called : (x : ℤ) → Contains (turns point) x → calls x ≡ trace body.tree (point ++ x ∷ [])
    unfolding calls
    called x turn = rw (asked x turn) refl

    some : (x : ℤ) → Contains (turns point) x → calls x ≢ []
    unfolding calls
    some x turn e = (inner x turn).some (sym (called x turn) ∙ e)

    none_idle : (x : ℤ) → Contains (turns point) x → idle_at_turn (guards ++ body.rows) body.tree (point ++ x ∷ []) ≡ 0
    none_idle x turn =
        let busy = inner x turn in
        let first = some_idle (trace body.tree (point ++ x ∷ [])) busy.some in
        let more = busy.idle in
        rw (asked x turn) (omega (arith, first, more))

    few_turns : (x : ℤ) → Contains (turns point) x
        → turns_at_turn (guards ++ body.rows) body.tree (point ++ x ∷ []) ≤ suc left * length (calls x)
    unfolding calls
    few_turns x turn =
        let busy = inner x turn in
        rw (asked x turn) (by (turns_of body.tree (point ++ x ∷ [])) (length (trace body.tree (point ++ x ∷ [])))
        (some_length (trace body.tree (point ++ x ∷ [])) busy.some) busy.turned)
      where
        by : (t l : ℕ) → 1 ≤ l → t ≤ left * l → 1 + t ≤ suc left * l
        by t l one few = omega (arith, one, few)

    whole_trace : trace nested.tree point ≡ each_in calls (turns point)
    unfolding calls
    whole_trace = loop.calls point here

    pub busy_looped : IsBusy (suc left) nested point
    busy_looped = record {
      asked = ap (λ (rs : List Row). rows_hold rs point) bare;
      some = λ e.
          let begun = begun_here in
          let turn = (looped.cover point begun.0 here begun.1).0 in
          some_each calls (turns point) begun.0 turn some (sym whole_trace ∙ e);
      idle = no_more (idle_of nested.tree point)
          (sum_by (λ x. idle_at_turn (guards ++ body.rows) body.tree (point ++ x ∷ [])) (turns point)) (loop.idle point here.width)
          (sum_none (λ x. idle_at_turn (guards ++ body.rows) body.tree (point ++ x ∷ [])) (turns point) none_idle);
      turned =
          at_most (turns_of nested.tree point)
          (sum_by (λ x. turns_at_turn (guards ++ body.rows) body.tree (point ++ x ∷ [])) (turns point))
          (suc left * length (trace nested.tree point)) (loop.turned point here.width)
          (subst (λ (es : List Event). sum_by (λ x. turns_at_turn (guards ++ body.rows) body.tree (point ++ x ∷ [])) (turns point)
          ≤ suc left * length es) (sym whole_trace)
          (sum_most (λ x. turns_at_turn (guards ++ body.rows) body.tree (point ++ x ∷ [])) calls (suc left) (turns point) few_turns));
    }
      where
        no_more : (n m : ℕ) → n ≤ m → m ≡ 0 → n ≡ 0
        no_more n m few none = omega (arith, few, none)

        at_most : (n m k : ℕ) → n ≤ m → m ≤ k → n ≤ k
        at_most n m k few more = omega (arith, few, more)

-- ---- the nest
-- with so many levels left, of an item whose columns are all the time
pub nest_busy : (item : ItemView) → IsItem item → item.times ≡ item.levels → IsStrided item.params item.levels item.rows → (left : ℕ)
    (place : Place) (nested : Nested) → length place.frame + left ≡ item.params + item.levels → item.params ≤ length place.frame
    → LaterNameForms item.rows place.frame → IsNest item left place nested → (point : List ℤ) → IsHere item place point
    → IsBusy left nested point
nest_busy item is timed strided zero place nested whole low forms nest point here = record {
  asked = ap (λ (rs : List Row). rows_hold rs point) nest.0;
  some = λ e. absurd (by (ap length (sym (nest.2.call point here) ∙ e)));
  idle = nest.2.idle point;
  turned = let none = nest.2.turned point in omega (arith, none);
}
  where
    by : ◌≡◌ {A = ℕ} 1 0 → ⊥
    by e = omega (arith, e)
nest_busy item is timed strided (suc left) place nested whole low forms (inl s) point here =
    let entry = s.0 in
    let rows = s.1 in
    let long = length-append place.frame (entry ∷ []) in
    let rest : Nested = record { rows = s.2; tree = nested.tree; inside = nested.inside } in
    busy_fixed item is strided left place whole low point here nested entry rows s.2 s.3 s.4
    (nest_busy item is timed strided left (with_entry place entry rows) rest (omega (arith, whole, long)) (omega (arith, low, long))
    (entry_forms item place entry rows s.3 timed (omega (arith, whole)) forms) s.5 point
    (fixed_here item is strided left place whole low point here nested entry rows s.2 s.3 s.4))
nest_busy item is timed strided (suc left) place nested whole low forms (inr s) point here =
    let turns = s.0 in
    let guards = s.1 in
    let body = s.2 in
    let there = with_loop place (nested.inside ++ guards) in
    let long = length-append (map widened place.frame) (own_column place.variables ∷ []) in
    let wide = length-map place.frame widened in
    let full : (x : ℤ) → Contains (turns point) x → HoldRows guards (point ++ x ∷ []) =
    λ x c. s.3.full (level_striding item.params item.levels item.rows strided place.frame low forms) point x here c in
    busy_looped item is strided left place whole low point here nested body turns guards s.3 s.4 s.5 full
    (λ x c. nest_busy item is timed strided left there body (omega (arith, whole, long, wide)) (omega (arith, low, long, wide))
    (loop_forms item.rows place.variables place.frame forms) s.6 (point ++ x ∷ []) (here_inside item place turns nested.inside guards s.3 point x here c (full x c)))
