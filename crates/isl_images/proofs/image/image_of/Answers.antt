use Rattle.std.proofs.Common.{sym, ◌∙◌, subst, List}
use Rattle.std.specs.List.{All}
use Rattle.isl_space.specs.Name.{Name}
use Rattle.isl_space.specs.Names.{IsParameterList}
use Rattle.isl_union.specs.KeptValue.{Has}
use Rattle.isl_union.specs.Piece.{IsPieceOf}
use Rattle.isl_union.proofs.PiecesLaws.{through}
use Rattle.isl_union.proofs.ValueLaws.{pieces_within}
use Rattle.isl_images.specs.Image.{ImageHas}
use Rattle.isl_images.specs.Made.{elements_of_all}
use Rattle.isl_images.proofs.ImageLaws.{image_additive}
use Rattle.isl_images.proofs.MadeLaws.{all_have, have_all, value_has, value_kept, value_small}
use Rattle.isl_images.proofs.image.image_of.Goals as goal

pub piece_images-requires-clause-pieces : goal.piece_images-requires-clause-pieces
piece_images-requires-clause-pieces c =
    subst (λ (n : List Name). All (IsPieceOf n) c.pieces.result.now) (sym (c.in_ok-params.ensures ∙ c.params.ensures.content))
    c.pieces.ensures.well_formed

pub piece_images-requires-clause-within : goal.piece_images-requires-clause-within
piece_images-requires-clause-within c =
    pieces_within c.args.meter.now c.args.a.now.params c.pieces.result.now c.args.a.now.pieces c.pieces.ensures.well_formed
    c.pieces.ensures.content c.requires

pub returns-clause-kept : goal.returns-clause-kept
returns-clause-kept c =
    let params = c.in_ok-params.params in
    let pieces = c.pieces.result.now in
    let names = c.in_ok-params.ensures ∙ c.params.ensures.content in
    value_kept c.args.meter.now params ⊥ (λ v. ImageHas c.args.image (elements_of_all params pieces v))
    c.in_ok-made.made.items c.in_ok-made.ensures.made c.from_normal.result c.from_normal.ensures
    (subst IsParameterList (sym c.in_ok-params.ensures) c.params.ensures.well_formed)

pub returns-clause-elements : goal.returns-clause-elements
returns-clause-elements c v e =
    let a = c.args.a.now in
    let params = c.in_ok-params.params in
    let pieces = c.pieces.result.now in
    let names = c.in_ok-params.ensures ∙ c.params.ensures.content in
    let grows = (image_additive c.args.image).grows in
    through
    (value_has c.args.meter.now params ⊥ (λ w. ImageHas c.args.image (elements_of_all params pieces w))
    c.in_ok-made.made.items c.in_ok-made.ensures.made c.from_normal.result c.from_normal.ensures v e) (
      grows (elements_of_all params pieces v) (Has a v) (all_have a params pieces names c.pieces.ensures.content v) e,
      grows (Has a v) (elements_of_all params pieces v) (have_all a params pieces names c.pieces.ensures.content v) e,
    )

pub returns-clause-numbers : goal.returns-clause-numbers
returns-clause-numbers c =
    let params = c.in_ok-params.params in
    let pieces = c.pieces.result.now in
    value_small c.args.meter.now params ⊥ (λ v. ImageHas c.args.image (elements_of_all params pieces v))
    c.in_ok-made.made.items c.in_ok-made.ensures.made c.from_normal.result c.from_normal.ensures
