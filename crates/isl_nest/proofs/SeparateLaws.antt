-- An item alone behind a place.
use Rattle.std.proofs.Common.{◌≡◌, ◌↔◌, inr, refl, sym, ◌∙◌, subst, Bool, true, false, ℕ, ◌+◌, ◌≤◌, ℤ, List, []}
use Rattle.std.proofs.Common.{◌++◌, length}
use Rattle.std.specs.Prelude.{if◌then◌else◌}
use Rattle.std.specs.List.{All, AllZip}
use Rattle.std.proofs.lemmas.Bool.{false≢true}
use Rattle.std.proofs.lemmas.List.{length-map}
use Rattle.std.proofs.lemmas.List.Elements.{All-append, All-nil}
use Rattle.isl_math.proofs.ListLaws.{All-zipped, All-zipped_back}
use Rattle.isl_meter.specs.Gauge.{Gauge}
use Rattle.isl_piece.specs.declared.row.Row.{Row}
use Rattle.isl_piece.specs.Normal.{normal_row, IsNormal, Kept}
use Rattle.isl_piece.specs.Row.{HoldsRow, IsRowWithin, IsWellFormed}
use Rattle.isl_piece.specs.System.{HoldRows}
use Rattle.isl_ast.proofs.FormedLaws.{block_parts}
use Rattle.isl_frame.specs.Frame.{column_at, columns_at, IsThrough}
use Rattle.isl_frame.specs.Needed.{AreRowsOver, IsNeeded}
use Rattle.isl_frame.proofs.NeededLaws.{kept_have, over_some}
use Rattle.isl_loop.specs.declared.tree.Loop.{Block, Loop}
use Rattle.isl_loop.specs.Formed.{IsLoopOver}
use Rattle.isl_loop.specs.Nest.{Lists, Timed}
use Rattle.isl_loop.specs.Run.{idle_of, rows_hold, trace, turns_of}
use Rattle.isl_loop.proofs.NestLaws.{lists_none}
use Rattle.isl_loop.proofs.RowLaws.{rows_tell}
use Rattle.isl_nest.specs.declared.nested.Nested.{Nested}
use Rattle.isl_nest.specs.declared.place.Place.{Place}
use Rattle.isl_nest.specs.Asked.{AreAsked}
use Rattle.isl_nest.specs.Covered.{IsItem}
use Rattle.isl_loop.specs.Depth.{depth_of}
use Rattle.isl_nest.specs.Item.{IsBegun, IsCalledBehind, ItemView}
use Rattle.isl_nest.specs.Naming.{AreNaming}
use Rattle.isl_nest.specs.Nest.{with_context, IsHere, IsNest, IsNowhere, ListsBehind}
use Rattle.isl_nest.specs.Places.{AreGuards, Stands}
use Rattle.isl_nest.specs.Separate.{IsSeparate}
use Rattle.isl_nest.proofs.AskedLaws.{asked_same}
use Rattle.isl_nest.proofs.BehindLaws.{begun_behind}
use Rattle.isl_nest.proofs.FixedLaws.{begun_front, hold_false, hold_true}
use Rattle.isl_nest.proofs.NamingLaws.{front_holds}
use Rattle.isl_nest.proofs.NestLaws.{nest_lists}

-- ---- nothing
pub empty_over : (g : Gauge) (n : ℕ) (parts : List Loop) → parts ≡ [] → IsLoopOver g n (Block parts)
empty_over g n parts e =
    (block_parts g n (Block parts) parts parts refl refl).1 (subst (All (IsLoopOver g n)) (sym e) (All-nil (IsLoopOver g n)))

-- ---- the rows in front
pub needed_guards : (g : Gauge) (variables : ℕ) (context normal rows : List Row) → AreRowsOver g variables normal → IsNormal normal
    → IsNeeded variables context normal rows → AreGuards g variables rows
needed_guards g variables context normal rows over is needed = record {
  over = over_some g variables normal rows needed.each over;
  normal = kept_have (λ r. normal_row r ≡ Kept r) normal rows needed.each is.settled;
}

module _ (item : ItemView) (place : Place) (front : List Row) (naming : AreNaming 0 (length place.frame) item.rows front)
    (through : List Row) (zip : AllZip (λ row t. IsThrough place.variables row place.frame t) front through) where
  long : (point : List ℤ) → length (columns_at place.frame point) ≡ length place.frame
  long point = length-map place.frame (column_at point)

  pub through_over : (g : Gauge) → All (IsRowWithin g) through → AreRowsOver g place.variables through
  through_over g within = record {
    formed = All-zipped (λ row t. IsThrough place.variables row place.frame t) (λ r. Unit {0}) (IsWellFormed place.variables)
        (λ r t i u. i.formed) front through zip (λ k d l. tt);
    within = within;
  }

  -- the rows say that those which name no further column hold
  through_holds : (point : List ℤ) → Stands place point → HoldRows through point ↔ HoldRows front (columns_at place.frame point)
  through_holds point stands =
      let R : Row → Type 0 = λ r. HoldsRow r (columns_at place.frame point) in
      let H : Row → Type 0 = λ r. HoldsRow r point in
      let Z : Row → Row → Type 0 = λ row t. IsThrough place.variables row place.frame t in (
        (λ h. All-zipped_back Z R H (λ r t i p. (i.points point stands.whole).0 p) front through zip h),
        (λ h. All-zipped Z R H (λ r t i p. (i.points point stands.whole).1 p) front through zip h),
      )

  begun_through : (point : List ℤ) → Stands place point → IsBegun item (columns_at place.frame point) → HoldRows through point
  begun_through point stands begun =
      (through_holds point stands).1 ((front_holds item.rows front (length place.frame) naming (columns_at place.frame point) (long point)).1
      (begun_front item (columns_at place.frame point) begun))

  no_call : (point : List ℤ) → ¬ IsBegun item (columns_at place.frame point)
      → (t : Timed) → ¬ IsCalledBehind item (columns_at place.frame point) t
  no_call point none t p = none (begun_behind item (columns_at place.frame point) t p)

  pub separate_never : (tree : Loop) → ((point : List ℤ) → trace tree point ≡ []) → ((point : List ℤ) → ¬ HoldRows through point)
      → ListsBehind item place tree
  separate_never tree none never point stands =
      subst (Lists (IsCalledBehind item (columns_at place.frame point))) (sym (none point))
      (lists_none (IsCalledBehind item (columns_at place.frame point)) (no_call point (λ b. never point (begun_through point stands b))))

  module _ (g : Gauge) (normal rows : List Row) (same : (point : List ℤ) → HoldRows normal point ↔ HoldRows through point)
      (needed : IsNeeded place.variables place.context normal rows) (guards : AreGuards g place.variables rows) where
    rows_hold_at : (point : List ℤ) → Stands place point → HoldRows rows point ↔ HoldRows through point
    rows_hold_at point stands =
        let a = needed.points point stands.width stands.context in
        let b = same point in
        ((λ h. b.0 (a.0 h)), (λ h. a.1 (b.1 h)))

    here_with : (point : List ℤ) → Stands place point → HoldRows rows point → IsHere item (with_context place rows) point
    here_with point stands holds = record {
      width = stands.width;
      context = All-append (λ r. HoldsRow r point) place.context rows stands.context holds;
      whole = stands.whole;
      front = (front_holds item.rows front (length place.frame) naming (columns_at place.frame point) (long point)).0
          ((through_holds point stands).0 ((rows_hold_at point stands).0 holds));
    }

    pub separate_nowhere : (tree : Loop) → ((point : List ℤ) → trace tree point ≡ []) → IsNowhere item (with_context place rows)
        → ListsBehind item place tree
    separate_nowhere tree none nowhere point stands =
        subst (Lists (IsCalledBehind item (columns_at place.frame point))) (sym (none point))
        (lists_none (IsCalledBehind item (columns_at place.frame point)) (no_call point
        (λ b. nowhere point (here_with point stands ((rows_hold_at point stands).1 (begun_through point stands b))) b)))

    abbrev Calls : List ℤ → Timed → Type 0
    Calls point = IsCalledBehind item (columns_at place.frame point)

    pub separate_lists : IsItem item → (left : ℕ) (nested : Nested) (tree : Loop) → length place.frame + left ≡ item.params + item.levels
        → item.params ≤ length place.frame → IsNest item left (with_context place rows) nested
        → ((point : List ℤ) → Stands place point
        → trace tree point ≡ (if rows_hold (rows ++ nested.rows) point then trace nested.tree point else []))
        → ListsBehind item place tree
    separate_lists is left nested tree whole low shape runs point stands =
        subst (Lists (Calls point)) (sym (runs point stands)) (by (rows_hold rows point) refl)
      where
        decided : (rows_hold rows point ≡ true → HoldRows rows point) × (HoldRows rows point → rows_hold rows point ≡ true)
        decided = rows_tell rows point (λ k d l. (guards.over.formed k d l).modulus)

        by : (b : Bool) → rows_hold rows point ≡ b
            → Lists (Calls point) (if rows_hold (rows ++ nested.rows) point then trace nested.tree point else [])
        by true e =
            subst (λ (b : Bool). Lists (Calls point) (if b then trace nested.tree point else [])) (sym (hold_true rows nested.rows point e))
            (nest_lists item is left (with_context place rows) nested whole low shape point (here_with point stands (decided.0 e)))
        by false e =
            subst (λ (b : Bool). Lists (Calls point) (if b then trace nested.tree point else [])) (sym (hold_false rows nested.rows point e))
            (lists_none (Calls point) (no_call point (λ b. false≢true (sym e ∙ decided.1
            ((rows_hold_at point stands).1 (begun_through point stands b))))))

    -- the tree under the rows that are asked
    module _ (left : ℕ) (nested : Nested) (tree : Loop) (asked : List Row) (shape : IsNest item left (with_context place rows) nested)
        (over : AreRowsOver g place.variables nested.rows)
        (is : AreAsked place.variables place.context nested.inside (rows ++ nested.rows) asked) where
      formed : All (IsWellFormed place.variables) (rows ++ nested.rows)
      formed = All-append (IsWellFormed place.variables) rows nested.rows guards.over.formed over.formed

      pub asked_calls : ((point : List ℤ) → trace tree point ≡ (if rows_hold asked point then trace nested.tree point else []))
          → (point : List ℤ) → Stands place point
          → trace tree point ≡ (if rows_hold (rows ++ nested.rows) point then trace nested.tree point else [])
      asked_calls runs point stands = runs point
          ∙ asked_same item left place rows asked nested is shape formed point stands (trace nested.tree point) [] (λ s. s.calls)

      pub separate_under : ((point : List ℤ) → trace tree point ≡ (if rows_hold asked point then trace nested.tree point else []))
          → ((point : List ℤ) → turns_of tree point ≡ (if rows_hold asked point then turns_of nested.tree point else 0))
          → ((point : List ℤ) → idle_of tree point ≡ (if rows_hold asked point then idle_of nested.tree point else 0))
          → depth_of tree ≡ depth_of nested.tree → IsSeparate item left place tree
      separate_under runs turned idle deep = inr (
        rows,
        nested,
        record {
          nest = shape;
          formed = guards.over.formed;
          front = λ point stands.
              let here = rows_hold_at point stands in
              let there = through_holds point stands in
              let front_is = front_holds item.rows front (length place.frame) naming (columns_at place.frame point) (long point) in (
                (λ h. front_is.0 (there.0 (here.0 h))),
                (λ h. here.1 (there.1 (front_is.1 h))),
              );
          calls = asked_calls runs;
          turned = λ point stands. turned point
              ∙ asked_same item left place rows asked nested is shape formed point stands (turns_of nested.tree point) 0 (λ s. s.turned);
          idle = λ point stands. idle point
              ∙ asked_same item left place rows asked nested is shape formed point stands (idle_of nested.tree point) 0 (λ s. s.idle);
          depth = deep;
        },
      )
