use Rattle.std.proofs.Common.{◌<◌, ◌≤◌, ◌∙◌, ◌*◌, [], ap, arith, length, map, refl, subst, sym, take, List}
use Rattle.std.proofs.lemmas.Result.{err_from_is_err_and}
use Rattle.std.proofs.lemmas.Grind.{common_steps}
use Rattle.std.proofs.lemmas.List.{take_all}
use Rattle.isl_meter.specs.Gauge.{Gauge}
use Rattle.isl_meter.proofs.CutLemmas.{IsCharged_refl, IsCharged_trans}
use Rattle.isl_space.specs.Name.{Name}
use Rattle.isl_space.specs.Space.{space_form_of}
use Rattle.isl_space.specs.declared.space.Space.{Space}
use Rattle.isl_by_space.specs.Spaces.{AreSpacesOf}
use Rattle.isl_union.specs.KeptValue.{KeptValue, columns_of}
use Rattle.isl_union.specs.Piece.{kept_piece}
use Rattle.isl_union.proofs.MeetSteps.{pieces_later}
use Rattle.isl_union.proofs.ValueLaws.{pieces_within}
use Rattle.isl_difference.proofs.TameLaws.{taken_next, taken_turn, tame_cut, tame_memory, tame_ok}
use Rattle.isl_span.specs.Work.{hull_units}
use Rattle.isl_hull.specs.Values.{AreHullsIn, IsHullIn}
use Rattle.isl_hull.proofs.BoundLaws.{all_turns, turn_of}
use Rattle.isl_hull.proofs.HullLaws.{found_later, hulls_more, hulls_none, space_formed, value_is, whole_hull, IsWhole}
use Rattle.isl_hull.proofs.values.affine_hull.Goals as goal

pub hull_in-requires-clause-space : goal.hull_in-requires-clause-space
hull_in-requires-clause-space c =
    let pieces = c.pieces-pieces.result.now in
    let spaces = c.as_slice-space-items.result.now in
    let are = subst (λ (ss : List Space). AreSpacesOf pieces (map space_form_of ss)) (sym c.as_slice-space-items.ensures.value)
    c.in_ok-spaces.ensures in
    let i = c.loop-space.space-index in
    let low : i < length spaces = grind (arith, common_steps) in
    space_formed c.args.value.now.params pieces spaces i c.space-item.result low c.space-item.is are c.pieces-pieces.ensures.well_formed

pub hull_in-requires-clause-within : goal.hull_in-requires-clause-within
hull_in-requires-clause-within c =
    let g = c.args.meter.now in
    let value = c.args.value.now in
    let pieces = c.pieces-pieces.result.now in
    pieces_later g c.loop-space.meter pieces c.loop-space.invariant.charged
    (pieces_within g value.params pieces value.pieces c.pieces-pieces.ensures.well_formed c.pieces-pieces.ensures.content c.requires)

pub loop-space-init : goal.loop-space-init
loop-space-init c =
    let g = c.args.meter.now in
    record {
      hulls = subst (AreHullsIn g c.args.value.now []) (sym c.in_ok-hulls.ensures.items) (hulls_none g c.args.value.now);
      charged = IsCharged_refl g g refl;
      tame = λ size limit room of_size once. omega arith;
    }

pub loop-space-preserved : goal.loop-space-preserved
loop-space-preserved c =
    let g = c.args.meter.now in
    let value = c.args.value.now in
    let params = c.params-params.result.now in
    let pieces = c.pieces-pieces.result.now in
    let spaces = c.as_slice-space-items.result.now in
    let are = subst (λ (ss : List Space). AreSpacesOf pieces (map space_form_of ss)) (sym c.as_slice-space-items.ensures.value)
    c.in_ok-spaces.ensures in
    let i = c.loop-space.space-index in
    let space = c.space-item.result in
    let found = c.in_ok-hull_in.field-0 in
    let low : i < length spaces = grind (arith, common_steps) in
    let is = value_is value params pieces c.params-params.ensures.content c.pieces-pieces.ensures.content in
    let told = found_later g c.loop-space.meter value (space_form_of space) found
    (ap (λ (x : Gauge). x.bits) c.loop-space.invariant.charged.same)
    (subst (λ (v : KeptValue). IsHullIn c.loop-space.meter v (space_form_of space) found) is c.in_ok-hull_in.ensures.exact) in
    record {
      hulls = hulls_more g value spaces i space c.loop-space.hulls.items c.push_found.new.kept.items found low c.space-item.is are.once
          c.in_ok-push_found.ensures told c.loop-space.invariant.hulls;
      charged = IsCharged_trans g c.loop-space.meter c.hull_in.new.meter c.loop-space.invariant.charged c.in_ok-hull_in.ensures.meter;
      tame = λ size limit room of_size once.
          let t = turn_of value pieces spaces size are c.pieces-pieces.ensures.well_formed c.pieces-pieces.ensures.content of_size
          i space low c.space-item.is once in
          let narrow = t.narrow in
          let fits = t.fits in
          let made = c.in_ok-hull_in.ensures.tame (columns_of value.params (space_form_of space)) size.bits t.system
          (ap (λ (x : Gauge). x.bits) c.loop-space.invariant.charged.same ∙ limit) (omega (arith, room, narrow))
          (ap (λ (l : List Name). columns_of l (space_form_of space)) (sym c.params-params.ensures.content)) t.systems t.plain in
          let used = made.within.units in
          taken_next i spaces (hull_units size.columns) g c.loop-space.meter c.hull_in.new.meter low
          (c.loop-space.invariant.tame size limit room of_size once) (omega (arith, used, fits));
    }

whole : (c : goal.After-drop-spaces-2) → IsWhole c.args.meter.now c.args.value.now c.from_normal.result
whole c =
    let g = c.args.meter.now in
    let value = c.args.value.now in
    let pieces = c.pieces-pieces.result.now in
    let hulls = c.loop-space.hulls.items in
    let spaces = c.as_slice-space-items.result.now in
    let are = subst (λ (ss : List Space). AreSpacesOf pieces (map space_form_of ss)) (sym c.as_slice-space-items.ensures.value)
    c.in_ok-spaces.ensures in
    let end : length spaces ≤ c.loop-space.space-index = grind (arith, common_steps) in
    let all = subst (λ (ss : List Space). AreHullsIn g value (map space_form_of ss) hulls) (take_all c.loop-space.space-index spaces end)
    c.loop-space.invariant.hulls in
    let made : List Name → KeptValue = λ l. record { params = l; pieces = map kept_piece hulls } in
    whole_hull g value pieces hulls (map space_form_of spaces) c.from_normal.result c.pieces-pieces.ensures.kept
    c.pieces-pieces.ensures.content are
    all
    (c.from_normal.ensures ∙ ap made (c.in_ok-copy.ensures ∙ c.params-params.ensures.content))

pub returns-clause-exact : goal.returns-clause-exact
returns-clause-exact c = (whole c).exact

pub returns-clause-contains : goal.returns-clause-contains
returns-clause-contains c = (whole c).contains

pub returns-clause-kept : goal.returns-clause-kept
returns-clause-kept c = (whole c).kept

pub returns-clause-numbers : goal.returns-clause-numbers
returns-clause-numbers c = (whole c).small

-- ---- of difference constraints
pub returns-in_err-spaces-clause-tame : goal.returns-in_err-spaces-clause-tame
returns-in_err-spaces-clause-tame c = λ size limit room of_size once.
    let p = err_from_is_err_and c.from_residual.result c.from_residual.ensures.1 in
    rw (p.1, p.2) (tame_memory 0 _ c.args.meter.now c.args.meter.now _ (omega arith) (omega arith))

pub returns-in_err-hulls-clause-tame : goal.returns-in_err-hulls-clause-tame
returns-in_err-hulls-clause-tame c = λ size limit room of_size once.
    let p = err_from_is_err_and c.from_residual-in_err-hulls.result c.from_residual-in_err-hulls.ensures.1 in
    rw (p.1, p.2) (tame_memory 0 _ c.args.meter.now c.args.meter.now _ (omega arith) (omega arith))

pub returns-in_err-hull_in-clause-tame : goal.returns-in_err-hull_in-clause-tame
returns-in_err-hull_in-clause-tame c = λ size limit room of_size once.
    let g = c.args.meter.now in
    let h = c.loop-space.meter in
    let value = c.args.value.now in
    let pieces = c.pieces-pieces.result.now in
    let spaces = c.as_slice-space-items.result.now in
    let i = c.loop-space.space-index in
    let space = c.space-item.result in
    let low : i < length spaces = grind (arith, common_steps) in
    let are = subst (λ (ss : List Space). AreSpacesOf pieces (map space_form_of ss)) (sym c.as_slice-space-items.ensures.value)
    c.in_ok-spaces.ensures in
    let sound = c.pieces-pieces.ensures.well_formed in
    let is = c.pieces-pieces.ensures.content in
    let t = turn_of value pieces spaces size are sound is of_size i space low c.space-item.is once in
    let narrow = t.narrow in
    let fits = t.fits in
    let limit_then = ap (λ (x : Gauge). x.bits) c.loop-space.invariant.charged.same ∙ limit in
    let columns = columns_of value.params (space_form_of space) in
    let own = ap (λ (l : List Name). columns_of l (space_form_of space)) (sym c.params-params.ensures.content) in
    let w = hull_units size.columns in
    let before = c.loop-space.invariant.tame size limit room of_size once in
    let most = all_turns value pieces spaces size are sound is of_size in
    let turn = taken_turn i spaces w low in
    let p = err_from_is_err_and c.from_residual-in_err-hull_in.result c.from_residual-in_err-hull_in.ensures.1 in
    rw (p.1, p.2) (tame_cut (length (take i spaces) * w) (hull_units columns) _ g h c.hull_in.new.meter _ _ c.in_err-hull_in.field-0.0
    c.loop-space.invariant.charged before (omega (arith, fits, turn, most))
    (c.in_err-hull_in.ensures.tame columns size.bits t.system limit_then (omega (arith, room, narrow)) own t.systems t.plain))

pub returns-in_err-push_found-clause-tame : goal.returns-in_err-push_found-clause-tame
returns-in_err-push_found-clause-tame c = λ size limit room of_size once.
    let g = c.args.meter.now in
    let h = c.loop-space.meter in
    let value = c.args.value.now in
    let pieces = c.pieces-pieces.result.now in
    let spaces = c.as_slice-space-items.result.now in
    let i = c.loop-space.space-index in
    let space = c.space-item.result in
    let low : i < length spaces = grind (arith, common_steps) in
    let are = subst (λ (ss : List Space). AreSpacesOf pieces (map space_form_of ss)) (sym c.as_slice-space-items.ensures.value)
    c.in_ok-spaces.ensures in
    let sound = c.pieces-pieces.ensures.well_formed in
    let is = c.pieces-pieces.ensures.content in
    let t = turn_of value pieces spaces size are sound is of_size i space low c.space-item.is once in
    let narrow = t.narrow in
    let fits = t.fits in
    let limit_then = ap (λ (x : Gauge). x.bits) c.loop-space.invariant.charged.same ∙ limit in
    let columns = columns_of value.params (space_form_of space) in
    let own = ap (λ (l : List Name). columns_of l (space_form_of space)) (sym c.params-params.ensures.content) in
    let w = hull_units size.columns in
    let before = c.loop-space.invariant.tame size limit room of_size once in
    let most = all_turns value pieces spaces size are sound is of_size in
    let turn = taken_turn i spaces w low in
    let made = c.in_ok-hull_in.ensures.tame columns size.bits t.system limit_then (omega (arith, room, narrow)) own t.systems t.plain in
    let used = made.within.units in
    let p = err_from_is_err_and c.from_residual-in_err-push_found.result c.from_residual-in_err-push_found.ensures.1 in
    rw (p.1, p.2) (tame_memory (length spaces * w) _ g c.hull_in.new.meter _ (omega (arith, before, used, fits, turn)) most)

pub returns-in_err-copy-clause-tame : goal.returns-in_err-copy-clause-tame
returns-in_err-copy-clause-tame c = λ size limit room of_size once.
    let value = c.args.value.now in
    let pieces = c.pieces-pieces.result.now in
    let spaces = c.as_slice-space-items.result.now in
    let i = c.loop-space.space-index in
    let end : length spaces ≤ i = grind (arith, common_steps) in
    let are = subst (λ (ss : List Space). AreSpacesOf pieces (map space_form_of ss)) (sym c.as_slice-space-items.ensures.value)
    c.in_ok-spaces.ensures in
    let most = all_turns value pieces spaces size are c.pieces-pieces.ensures.well_formed c.pieces-pieces.ensures.content of_size in
    let used = rw (take_all i spaces end) at (c.loop-space.invariant.tame size limit room of_size once) in
    let p = err_from_is_err_and c.from_residual-in_err-copy.result c.from_residual-in_err-copy.ensures.1 in
    rw (p.1, p.2) (tame_memory (length spaces * hull_units size.columns) _ c.args.meter.now c.loop-space.meter _ used most)

pub returns-clause-tame : goal.returns-clause-tame
returns-clause-tame c = λ size limit room of_size once.
    let value = c.args.value.now in
    let pieces = c.pieces-pieces.result.now in
    let spaces = c.as_slice-space-items.result.now in
    let i = c.loop-space.space-index in
    let end : length spaces ≤ i = grind (arith, common_steps) in
    let are = subst (λ (ss : List Space). AreSpacesOf pieces (map space_form_of ss)) (sym c.as_slice-space-items.ensures.value)
    c.in_ok-spaces.ensures in
    let most = all_turns value pieces spaces size are c.pieces-pieces.ensures.well_formed c.pieces-pieces.ensures.content of_size in
    let used = rw (take_all i spaces end) at (c.loop-space.invariant.tame size limit room of_size once) in
    tame_ok _ c.args.meter.now c.loop-space.meter _ _ (omega (arith, used, most)) tt
