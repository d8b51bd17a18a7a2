use Rattle.std.proofs.Common.{◌≡◌, ◌↔◌, [], All, Any, sym, ap, ◌∙◌, map}
use Rattle.std.proofs.lemmas.Result.{IfOk-weaker}
use Rattle.isl_space.specs.Shape.{form_of}
use Rattle.isl_space.specs.Space.{space_form_of}
use Rattle.isl_space.specs.SpaceForm.{map_of}
use Rattle.isl_union.specs.KeptValue.{HasElement}
use Rattle.isl_union.specs.Piece.{kept_piece, IsPieceOf}
use Rattle.isl_union.proofs.SystemLaws.{view_free}
use Rattle.isl_products.specs.Made.{AreLeft, IsApartFrom}
use Rattle.isl_products.proofs.RemoveLaws.{left_apart}
use Rattle.isl_products.proofs.remove.piece_without.Goals as goal

pub left_of-requires-clause-others : goal.left_of-requires-clause-others
left_of-requires-clause-others c =
    let beside = c.in_ok-systems.ensures c.args.meter.now c.requires.others_within in
    rw c.as_slice.ensures.value (λ k d l. (beside.over k d l).within)

pub left_of-requires-clause-columns : goal.left_of-requires-clause-columns
left_of-requires-clause-columns c =
    let beside = c.in_ok-systems.ensures c.args.meter.now c.requires.others_within in
    rw c.as_slice.ensures.value
    (λ k d l. (beside.over k d l).free ∙ sym (view_free c.args.params.now c.args.piece.now c.requires.piece))

pub returns-clause-elements : goal.returns-clause-elements
returns-clause-elements c v e =
    let g = c.args.meter.now in
    let params = c.args.params.now in
    let piece = c.args.piece.now in
    let others = c.args.others.now in
    let systems = c.in_ok-systems.systems.items in
    let beside = c.in_ok-systems.ensures g c.requires.others_within in
    let exact = rw c.as_slice.ensures.value at c.left_of.ensures.exact in
    let from = form_of c.in-Map.field-0.value in
    let to = form_of c.in-Map.field-1.value in
    let space : piece.space ≡ map_of from to = sym c.space.ensures ∙ ap space_form_of c.in-Map.is in
    IfOk-weaker c.left_of.result (λ left. AreLeft g params piece systems left.items)
    (λ left. Any (HasElement params v e) (map kept_piece left.items)
    ↔ IsApartFrom c.args.place params (map kept_piece others) v e (kept_piece piece))
    (λ left are. left_apart g c.args.place params piece others systems left.items beside are from to space v e)
    (exact params c.requires.piece)

pub returns-clause-sound : goal.returns-clause-sound
returns-clause-sound c =
    let g = c.args.meter.now in
    let params = c.args.params.now in
    let piece = c.args.piece.now in
    IfOk-weaker c.left_of.result (λ left. AreLeft g params piece c.as_slice.result.now left.items)
    (λ left. All (IsPieceOf params) left.items) (λ left are. are.sound) (c.left_of.ensures.exact params c.requires.piece)

pub returns-clause-definitions : goal.returns-clause-definitions
returns-clause-definitions c = λ own none.
    let g = c.args.meter.now in
    let params = c.args.params.now in
    let piece = c.args.piece.now in
    let beside = c.in_ok-systems.ensures g c.requires.others_within in
    let systems = c.in_ok-systems.systems.items in
    let exact = rw c.as_slice.ensures.value at c.left_of.ensures.exact in
    IfOk-weaker c.left_of.result (λ left. AreLeft g params piece systems left.items)
    (λ left. All (λ part. part.definitions ≡ []) (map kept_piece left.items)) (λ left are. are.plain own (beside.plain none))
    (exact params c.requires.piece)

pub returns-clause-numbers : goal.returns-clause-numbers
returns-clause-numbers c =
    let g = c.args.meter.now in
    let params = c.args.params.now in
    let piece = c.args.piece.now in
    IfOk-weaker c.left_of.result (λ left. AreLeft g params piece c.as_slice.result.now left.items) _ (λ left are. are.numbers)
    (c.left_of.ensures.exact params c.requires.piece)
