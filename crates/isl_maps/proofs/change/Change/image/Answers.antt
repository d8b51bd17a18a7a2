use Rattle.std.proofs.Common.{ap, sym, ◌∙◌, option_map}
use Rattle.isl_space.specs.Space.{space_form_of}
use Rattle.isl_union.specs.Piece.{kept_piece}
use Rattle.isl_maps.specs.Change.{formed_space}
use Rattle.isl_maps.proofs.ChangeLaws.{added_room, image_system, settled_image}
use Rattle.isl_maps.proofs.change.Change.image.Goals as goal

pub piece-requires-clause-within : goal.piece-requires-clause-within
piece-requires-clause-within c =
    let g = c.args.meter.now in
    let formed = space_form_of c.in-Some.space in
    let is = sym (ap (option_map space_form_of) c.in-Some.is) ∙ c.in_ok-space.ensures.made
    ∙ ap (formed_space c.args.self) c.space.ensures in
    let are = image_system g c.args.self c.args.params.now c.args.piece.now c.in_ok-system.system formed c.in_ok-system.ensures
    c.requires.within is in
    are.within (added_room c.args.self g c.requires.bits)

pub returns-clause-image : goal.returns-clause-image
returns-clause-image c =
    let g = c.args.meter.now in
    let formed = space_form_of c.in-Some.space in
    let is = sym (ap (option_map space_form_of) c.in-Some.is) ∙ c.in_ok-space.ensures.made
    ∙ ap (formed_space c.args.self) c.space.ensures in
    let are = image_system g c.args.self c.args.params.now c.args.piece.now c.in_ok-system.system formed c.in_ok-system.ensures
    c.requires.within is in
    settled_image c.args.self c.args.params.now g c.args.piece.now c.requires.piece formed c.in_ok-system.system are
    (added_room c.args.self g c.requires.bits) (kept_piece c.in_ok-piece.field-0) c.in_ok-piece.ensures.exact
