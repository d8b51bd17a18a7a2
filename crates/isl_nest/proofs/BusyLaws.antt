-- The loops of a strided item alone.
use Rattle.std.proofs.Common.{◌≡◌, ◌∙◌, inl, inr, refl, ap, arith, Bool, true, false, ℕ, ◌+◌, ◌≤◌, ℤ, List, [], ◌++◌, length}
use Rattle.std.specs.Prelude.{if◌then◌else◌}
use Rattle.std.proofs.lemmas.List.Elements.{All-append}
use Rattle.isl_piece.specs.declared.row.Row.{Row}
use Rattle.isl_piece.specs.Row.{HoldsRow}
use Rattle.isl_piece.specs.System.{HoldRows}
use Rattle.isl_loop.specs.declared.tree.Loop.{Loop}
use Rattle.isl_loop.specs.Run.{idle_of, rows_hold, trace, turns_of}
use Rattle.isl_loop.proofs.RowLaws.{rows_tell}
use Rattle.isl_nest.specs.declared.nested.Nested.{Nested}
use Rattle.isl_nest.specs.declared.place.Place.{Place}
use Rattle.isl_nest.specs.Covered.{IsItem}
use Rattle.isl_loop.specs.Depth.{depth_of}
use Rattle.isl_nest.specs.Item.{ItemView}
use Rattle.isl_nest.specs.Nest.{with_context, IsHere}
use Rattle.isl_nest.specs.Places.{Stands}
use Rattle.isl_nest.specs.Separate.{IsSeparate, IsUnder}
use Rattle.isl_nest.proofs.FixedLaws.{hold_false, hold_true}
use Rattle.isl_nest.specs.Busy.{HasNoIdleTurn, IsBusy}
use Rattle.isl_nest.specs.Strided.{IsStrided}
use Rattle.isl_nest.proofs.DepthLaws.{nest_depth}
use Rattle.isl_nest.proofs.FormLaws.{LaterNameForms}
use Rattle.isl_nest.proofs.StridedLaws.{nest_busy}

-- no more loops stand in one another than there are levels
pub separate_depth : (item : ItemView) (left : ℕ) (place : Place) (tree : Loop) → IsSeparate item left place tree → depth_of tree ≤ left
separate_depth item left place tree (inl still) = let none = still.depth in omega (arith, none)
separate_depth item left place tree (inr u) =
    let few = nest_depth item left (with_context place u.0) u.1 u.2.nest in
    let same = u.2.depth in
    omega (arith, few, same)

module _ (item : ItemView) (left : ℕ) (place : Place) (tree : Loop) (rows : List Row) (nested : Nested)
    (under : IsUnder item left place tree rows nested) (point : List ℤ) (stands : Stands place point) where
  there : HoldRows rows point → IsHere item (with_context place rows) point
  there holds = record {
    width = stands.width;
    context = All-append (λ r. HoldsRow r point) place.context rows stands.context holds;
    whole = stands.whole;
    front = (under.front point stands).0 holds;
  }

  asked_idle : (b : Bool) → rows_hold (rows ++ nested.rows) point ≡ b
      → HasNoIdleTurn left (if b then trace nested.tree point else []) (if b then turns_of nested.tree point else 0)
      (if b then idle_of nested.tree point else 0) → HasNoIdleTurn left (trace tree point) (turns_of tree point) (idle_of tree point)
  asked_idle b e none =
      let calls = under.calls point stands ∙ ap (λ (c : Bool). if c then trace nested.tree point else []) e in
      let turned = under.turned point stands ∙ ap (λ (c : Bool). if c then turns_of nested.tree point else 0) e in
      let idle = under.idle point stands ∙ ap (λ (c : Bool). if c then idle_of nested.tree point else 0) e in
      rw (calls, turned, idle) none

  no_idle : (b : Bool) → rows_hold rows point ≡ b → (HoldRows rows point → IsBusy left nested point)
      → HasNoIdleTurn left (trace tree point) (turns_of tree point) (idle_of tree point)
  no_idle true e busy =
      let told = rows_tell rows point (λ k d l. (under.formed k d l).modulus) in
      let here = busy (told.0 e) in
      asked_idle true (hold_true rows nested.rows point e ∙ here.asked) (record { none = here.idle; few = here.turned })
  no_idle false e busy = asked_idle false (hold_false rows nested.rows point e) (record { none = refl; few = omega arith })

-- none of its turns is idle, and there are at most as many as the calls times the levels
pub separate_busy : (item : ItemView) → IsItem item → item.times ≡ item.levels → IsStrided item.params item.levels item.rows → (left : ℕ)
    (place : Place) (tree : Loop)
    → length place.frame + left ≡ item.params + item.levels → item.params ≤ length place.frame
    → LaterNameForms item.rows place.frame → IsSeparate item left place tree → (point : List ℤ) → Stands place point
    → HasNoIdleTurn left (trace tree point) (turns_of tree point) (idle_of tree point)
separate_busy item is timed strided left place tree whole low forms (inl still) point stands = record {
  none = still.idle point;
  few = let none = still.turned point in omega (arith, none);
}
separate_busy item is timed strided left place tree whole low forms (inr u) point stands =
    let rows = u.0 in
    no_idle item left place tree rows u.1 u.2 point stands (rows_hold rows point) refl
    (λ holds. nest_busy item is timed strided left (with_context place rows) u.1 whole low forms u.2.nest point
    (there item left place tree rows u.1 u.2 point stands holds))
