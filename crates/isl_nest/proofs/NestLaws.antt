-- A nest lists the calls of its item.
use Rattle.std.proofs.Common.{◌≡◌, inl, inr, arith, ℕ, zero, suc, ◌+◌, ◌≤◌, [], ◌∷◌, ◌++◌, length}
use Rattle.std.proofs.Common.{length-append}
use Rattle.std.specs.Prelude.{map}
use Rattle.std.proofs.lemmas.List.{length-map}
use Rattle.isl_piece.specs.System.{widened}
use Rattle.isl_frame.specs.Frame.{own_column}
use Rattle.isl_nest.specs.declared.nested.Nested.{Nested}
use Rattle.isl_nest.specs.declared.place.Place.{Place}
use Rattle.isl_nest.specs.Covered.{IsItem}
use Rattle.isl_nest.specs.Item.{ItemView}
use Rattle.isl_nest.specs.Nest.{with_entry, with_loop, IsNest, ListsNest}
use Rattle.isl_nest.proofs.CallLaws.{lists_last}
use Rattle.isl_nest.proofs.FixedLaws.{lists_fixed}
use Rattle.isl_nest.proofs.LoopedLaws.{lists_looped}

-- with so many levels left, wherever the place holds
pub nest_lists : (item : ItemView) → IsItem item → (left : ℕ) (place : Place) (nested : Nested)
    → length place.frame + left ≡ item.params + item.levels → item.params ≤ length place.frame → IsNest item left place nested
    → ListsNest item place nested
nest_lists item is zero place nested whole low shape = lists_last item place nested shape (omega (arith, whole)) is.formed
nest_lists item is (suc left) place nested whole low (inl s) =
    let entry = s.0 in
    let rows = s.1 in
    let more = s.2 in
    let fixed = s.3 in
    let split = s.4 in
    let there = with_entry place entry rows in
    let rest : Nested = record { rows = more; tree = nested.tree; inside = nested.inside } in
    let long = length-append place.frame (entry ∷ []) in
    lists_fixed item place entry rows more nested fixed split (omega (arith, whole))
    (nest_lists item is left there rest (omega (arith, whole, long)) (omega (arith, low, long)) s.5)
nest_lists item is (suc left) place nested whole low (inr s) =
    let turns = s.0 in
    let guards = s.1 in
    let body = s.2 in
    let there = with_loop place (nested.inside ++ guards) in
    let long = length-append (map widened place.frame) (own_column place.variables ∷ []) in
    let wide = length-map place.frame widened in
    lists_looped item place turns nested.inside guards s.3 is nested body s.4 s.5 low (omega (arith, whole))
    (nest_lists item is left there body (omega (arith, whole, long, wide)) (omega (arith, low, long, wide)) s.6)
