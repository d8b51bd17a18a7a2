use Rattle.std.proofs.Common.{◌<◌, ◌≤◌, refl, sym, subst, arith, List, length, map, take}
use Rattle.std.proofs.lemmas.Grind.{common_steps}
use Rattle.std.proofs.lemmas.List.{take_all}
use Rattle.std.proofs.lemmas.Result.{err_from_is_err_and}
use Rattle.isl_math.proofs.ListLaws.{All-unmapped}
use Rattle.isl_meter.proofs.CutLemmas.{IsCharged_refl, IsCharged_trans}
use Rattle.isl_space.specs.Space.{space_form_of}
use Rattle.isl_space.specs.declared.space.Space.{Space}
use Rattle.isl_space.specs.SpaceForm.{SpaceForm, IsWellFormedSpace}
use Rattle.isl_by_space.specs.Spaces.{AreSpacesOf}
use Rattle.isl_relation.specs.Extremes.{HasFirst}
use Rattle.isl_space.specs.Valuation.{Valuation}
use Rattle.isl_extremes.specs.Pieces.{elements_of_all, order_of, AreFirstSoFar, ThereIsFirst}
use Rattle.isl_extremes.proofs.FaultLaws.{later_fault, no_memory}
use Rattle.isl_extremes.proofs.PiecesLaws.{all_elements, one_at, pieces_plain_later, so_far_first, so_far_more, space_formed}
use Rattle.isl_extremes.proofs.PiecesLaws.{spaces_more, there_everywhere, there_in}
use Rattle.isl_extremes.proofs.pieces.first_pieces.Goals as goal

pub loop-space-init : goal.loop-space-init
loop-space-init c =
    so_far_first c.args.meter.now c.args.meter.now c.args.params.now c.args.direction c.args.pieces.now c.new-made.result.items
    (IsCharged_refl c.args.meter.now c.args.meter.now refl) c.new-made.ensures.items

pub first_in-requires-clause-formed : goal.first_in-requires-clause-formed
first_in-requires-clause-formed c =
    let spaces = c.as_slice-space-items.result.now in
    let are = subst (λ (ss : List Space). AreSpacesOf c.args.pieces.now (map space_form_of ss)) (sym c.as_slice-space-items.ensures.value)
    c.in_ok-spaces.ensures in
    let i = c.loop-space.space-index in
    let low : i < length spaces = grind (arith, common_steps) in
    one_at (λ s. IsWellFormedSpace (space_form_of s)) spaces i c.space-item.result low c.space-item.is
    (All-unmapped IsWellFormedSpace space_form_of spaces
    (space_formed c.args.params.now c.args.direction c.args.pieces.now (map space_form_of spaces) are c.requires.pieces.sound))

pub indexed-requires : goal.indexed-requires
indexed-requires c = λ k d l. (c.requires.pieces.sound k d l).kept.space

pub first_in-requires-clause-pieces : goal.first_in-requires-clause-pieces
first_in-requires-clause-pieces c =
    rw c.in_ok-index.ensures (pieces_plain_later c.args.meter.now c.loop-space.meter c.args.params.now c.args.pieces.now
    c.loop-space.invariant.charged c.requires.pieces)

pub loop-space-preserved : goal.loop-space-preserved
loop-space-preserved c =
    let g = c.args.meter.now in
    let params = c.args.params.now in
    let d = c.args.direction in
    let pieces = c.args.pieces.now in
    let spaces = c.as_slice-space-items.result.now in
    let are = subst (λ (ss : List Space). AreSpacesOf c.args.pieces.now (map space_form_of ss)) (sym c.as_slice-space-items.ensures.value)
    c.in_ok-spaces.ensures in
    let i = c.loop-space.space-index in
    let s = c.space-item.result in
    let low : i < length spaces = grind (arith, common_steps) in
    let told = c.in_ok-more.ensures in
    let first = rw c.in_ok-index.ensures at told.first in
    let there = rw c.in_ok-index.ensures at told.meter.0 in
    subst (λ (ss : List SpaceForm). AreFirstSoFar g c.first_in.new.meter params d ss pieces c.append.new.pieces.items)
    (sym (spaces_more spaces i s low c.space-item.is))
    (so_far_more g c.loop-space.meter params d pieces c.first_in.new.meter (map space_form_of (take i spaces)) (space_form_of s)
    c.loop-space.made.items c.in_ok-more.more.items c.append.new.pieces.items c.in_ok-append.ensures c.loop-space.invariant told.meter.1
    first there)

pub returns-clause-made : goal.returns-clause-made
returns-clause-made c = c.loop-space.invariant.first.are

pub returns-clause-elements : goal.returns-clause-elements
returns-clause-elements c v e =
    let g = c.args.meter.now in
    let params = c.args.params.now in
    let d = c.args.direction in
    let pieces = c.args.pieces.now in
    let spaces = c.as_slice-space-items.result.now in
    let are = subst (λ (ss : List Space). AreSpacesOf c.args.pieces.now (map space_form_of ss)) (sym c.as_slice-space-items.ensures.value)
    c.in_ok-spaces.ensures in
    let end : length spaces ≤ c.loop-space.space-index = grind (arith, common_steps) in
    let so_far = subst (λ (ss : List Space). AreFirstSoFar g c.loop-space.meter params d (map space_form_of ss) pieces
    c.loop-space.made.items)
    (take_all c.loop-space.space-index spaces end) c.loop-space.invariant in
    all_elements params d pieces (map space_form_of spaces) are g c.loop-space.meter c.loop-space.made.items so_far v e

pub returns-clause-meter : goal.returns-clause-meter
returns-clause-meter c =
    let g = c.args.meter.now in
    let params = c.args.params.now in
    let d = c.args.direction in
    let pieces = c.args.pieces.now in
    let spaces = c.as_slice-space-items.result.now in
    let are = subst (λ (ss : List Space). AreSpacesOf c.args.pieces.now (map space_form_of ss)) (sym c.as_slice-space-items.ensures.value)
    c.in_ok-spaces.ensures in
    let end : length spaces ≤ c.loop-space.space-index = grind (arith, common_steps) in
    let so_far = subst (λ (ss : List Space). AreFirstSoFar g c.loop-space.meter params d (map space_form_of ss) pieces
    c.loop-space.made.items)
    (take_all c.loop-space.space-index spaces end) c.loop-space.invariant in (
      there_everywhere params d pieces (map space_form_of spaces) are so_far.there,
      so_far.charged,
    )

pub returns-in_err-more-clause-meter : goal.returns-in_err-more-clause-meter
returns-in_err-more-clause-meter c =
    let g = c.args.meter.now in
    let params = c.args.params.now in
    let d = c.args.direction in
    let pieces = c.args.pieces.now in
    let spaces = c.as_slice-space-items.result.now in
    let are = subst (λ (ss : List Space). AreSpacesOf c.args.pieces.now (map space_form_of ss)) (sym c.as_slice-space-items.ensures.value)
    c.in_ok-spaces.ensures in
    let space = space_form_of c.space-item.result in
    let error = err_from_is_err_and c.from_residual-in_err-more.result c.from_residual-in_err-more.ensures.1 in
    rw (error.1, error.2)
    (later_fault (¬ ((v : Valuation) → HasFirst (order_of d) (elements_of_all params pieces v))) (¬ ThereIsFirst params d pieces space)
    (λ n all. n (there_in params d pieces (map space_form_of spaces) are space all)) g c.loop-space.meter c.first_in.new.meter
    c.in_err-more.field-0.0 c.loop-space.invariant.charged (rw c.in_ok-index.ensures at c.in_err-more.ensures.meter))

pub returns-in_err-append-clause-meter : goal.returns-in_err-append-clause-meter
returns-in_err-append-clause-meter c =
    let g = c.args.meter.now in
    let params = c.args.params.now in
    let d = c.args.direction in
    let pieces = c.args.pieces.now in
    let error = err_from_is_err_and c.from_residual-in_err-append.result c.from_residual-in_err-append.ensures.1 in
    rw error.1
    (no_memory (¬ ((v : Valuation) → HasFirst (order_of d) (elements_of_all params pieces v))) g c.first_in.new.meter error.0 error.2
    (IsCharged_trans g c.loop-space.meter c.first_in.new.meter c.loop-space.invariant.charged c.in_ok-more.ensures.meter.1))
