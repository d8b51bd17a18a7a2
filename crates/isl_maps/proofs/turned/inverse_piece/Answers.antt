use Rattle.std.proofs.Common.{◌≡◌, ap, ◌∙◌}
use Rattle.std.proofs.lemmas.Result.{IfOk-weaker}
use Rattle.isl_space.specs.Space.{space_form_of}
use Rattle.isl_piece.specs.Placed.{placed_system}
use Rattle.isl_piece.specs.System.{free_columns}
use Rattle.isl_union.specs.Live.{settled}
use Rattle.isl_union.specs.Piece.{kept_piece, piece_of}
use Rattle.isl_maps.specs.Inverse.{inverse_piece, inverse_places, inverse_space}
use Rattle.isl_maps.proofs.InverseLaws.{made_formed, made_free, made_live, made_places, made_turned, made_within}
use Rattle.isl_maps.proofs.turned.inverse_piece.Goals as goal

pub placed-requires : goal.placed-requires
placed-requires c =
    let piece = c.args.piece.now in
    let columns = c.free.result in
    let places = c.as_slice.result.now in
    let wide = c.free.ensures ∙ ap free_columns c.system-own.ensures in
    let at = c.as_slice.ensures.value ∙ c.in_ok-places.ensures ∙ ap (inverse_places c.len.result) c.space.ensures
    ∙ ap (λ n. inverse_places n piece.space) c.len.ensures.len in
    (made_places c.args.meter.now c.args.params.now piece c.requires.piece c.requires.within columns places wide at).inside

pub settled_piece-requires-clause-within : goal.settled_piece-requires-clause-within
settled_piece-requires-clause-within c =
    let piece = c.args.piece.now in
    let columns = c.free.result in
    let places = c.as_slice.result.now in
    let wide = c.free.ensures ∙ ap free_columns c.system-own.ensures in
    let at = c.as_slice.ensures.value ∙ c.in_ok-places.ensures ∙ ap (inverse_places c.len.result) c.space.ensures
    ∙ ap (λ n. inverse_places n piece.space) c.len.ensures.len in
    let space = c.in_ok-space.ensures ∙ ap inverse_space c.space-2.ensures in
    let system = c.in_ok-system.ensures.exact ∙ ap (placed_system columns places) c.system-own.ensures in
    made_within c.args.meter.now c.args.params.now piece c.requires.piece c.requires.within columns places wide at
    (space_form_of c.in_ok-space.space) c.in_ok-system.system space system

pub settled_piece-requires-clause-live : goal.settled_piece-requires-clause-live
settled_piece-requires-clause-live c =
    let piece = c.args.piece.now in
    let columns = c.free.result in
    let places = c.as_slice.result.now in
    let wide = c.free.ensures ∙ ap free_columns c.system-own.ensures in
    let at = c.as_slice.ensures.value ∙ c.in_ok-places.ensures ∙ ap (inverse_places c.len.result) c.space.ensures
    ∙ ap (λ n. inverse_places n piece.space) c.len.ensures.len in
    let space = c.in_ok-space.ensures ∙ ap inverse_space c.space-2.ensures in
    let system = c.in_ok-system.ensures.exact ∙ ap (placed_system columns places) c.system-own.ensures in
    made_live c.args.meter.now c.args.params.now piece c.requires.piece c.requires.within columns places wide at
    (space_form_of c.in_ok-space.space) c.in_ok-system.system space system

pub returns-clause-exact : goal.returns-clause-exact
returns-clause-exact c =
    let piece = c.args.piece.now in
    let columns = c.free.result in
    let places = c.as_slice.result.now in
    let wide = c.free.ensures ∙ ap free_columns c.system-own.ensures in
    let at = c.as_slice.ensures.value ∙ c.in_ok-places.ensures ∙ ap (inverse_places c.len.result) c.space.ensures
    ∙ ap (λ n. inverse_places n piece.space) c.len.ensures.len in
    let space = c.in_ok-space.ensures ∙ ap inverse_space c.space-2.ensures in
    let system = c.in_ok-system.ensures.exact ∙ ap (placed_system columns places) c.system-own.ensures in
    let is = made_turned c.args.meter.now c.args.params.now piece c.requires.piece c.requires.within columns places wide at
    (space_form_of c.in_ok-space.space) c.in_ok-system.system space system in
    IfOk-weaker c.settled_piece.result (λ m. kept_piece m ≡ settled (piece_of (space_form_of c.in_ok-space.space) c.in_ok-system.system))
    (λ m. kept_piece m ≡ inverse_piece c.args.params.now (kept_piece piece)) (λ m e. e ∙ is) c.settled_piece.ensures.exact

pub returns-clause-sound : goal.returns-clause-sound
returns-clause-sound c =
    let piece = c.args.piece.now in
    let columns = c.free.result in
    let places = c.as_slice.result.now in
    let wide = c.free.ensures ∙ ap free_columns c.system-own.ensures in
    let at = c.as_slice.ensures.value ∙ c.in_ok-places.ensures ∙ ap (inverse_places c.len.result) c.space.ensures
    ∙ ap (λ n. inverse_places n piece.space) c.len.ensures.len in
    let space = c.in_ok-space.ensures ∙ ap inverse_space c.space-2.ensures in
    let system = c.in_ok-system.ensures.exact ∙ ap (placed_system columns places) c.system-own.ensures in
    let formed = made_formed c.args.meter.now c.args.params.now piece c.requires.piece c.requires.within columns places wide at
    (space_form_of c.in_ok-space.space) c.in_ok-system.system space system in
    let free = made_free c.args.meter.now c.args.params.now piece c.requires.piece c.requires.within columns places wide at
    (space_form_of c.in_ok-space.space) c.in_ok-system.system space system in
    c.settled_piece.ensures.sound c.args.params.now formed free
