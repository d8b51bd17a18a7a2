use Rattle.std.proofs.Common.{◌≡◌, sym, ap, ap₂, ◌∙◌, subst, ◌+◌, ◌++◌, length}
use Rattle.std.specs.List.{range_with_len}
use Rattle.std.proofs.lemmas.Result.{IfOk-weaker}
use Rattle.isl_space.specs.Space.{space_form_of}
use Rattle.isl_space.specs.SpaceForm.{SpaceForm, coordinates_of, IsWellFormedSpace}
use Rattle.isl_piece.specs.Placed.{placed_system}
use Rattle.isl_union.specs.KeptValue.{columns_of}
use Rattle.isl_union.specs.Live.{settled}
use Rattle.isl_union.specs.Moved.{aligned, places_in}
use Rattle.isl_union.specs.Piece.{kept_piece, piece_of}
use Rattle.isl_union.proofs.AlignedLaws.{made_places, made_within, made_free, made_live, made_aligned}
use Rattle.isl_union.proofs.aligned.aligned_piece.Goals as goal

pub placed-requires : goal.placed-requires
placed-requires c =
    let all = c.args.all.now in
    let width = c.width-width.ensures ∙ ap coordinates_of c.space-space.ensures in
    (made_places c.args.meter.now all c.args.names.now c.requires.names c.requires.among c.args.piece.now c.requires.piece c.requires.within
    (c.len.result + c.width-width.result) c.as_slice.result.now (ap₂ (λ m n. m + n) c.len.ensures.len width)
    (c.as_slice.ensures.value ∙ c.in_ok-places.ensures ∙ ap (λ n. places_in all c.args.names.now
    ++ range_with_len (length all) n) width)).inside

pub settled_piece-requires-clause-within : goal.settled_piece-requires-clause-within
settled_piece-requires-clause-within c =
    let all = c.args.all.now in
    let columns = c.len.result + c.width-width.result in
    let places = c.as_slice.result.now in
    let width = c.width-width.ensures ∙ ap coordinates_of c.space-space.ensures in
    made_within c.args.meter.now all c.args.names.now c.requires.names c.requires.among c.args.piece.now c.requires.piece c.requires.within
    columns places (ap₂ (λ m n. m + n) c.len.ensures.len width)
    (c.as_slice.ensures.value ∙ c.in_ok-places.ensures ∙ ap (λ n. places_in all c.args.names.now ++ range_with_len (length all) n) width)
    c.in_ok-system.system (c.in_ok-system.ensures.exact ∙ ap (placed_system columns places) c.system.ensures)

pub settled_piece-requires-clause-live : goal.settled_piece-requires-clause-live
settled_piece-requires-clause-live c =
    let all = c.args.all.now in
    let columns = c.len.result + c.width-width.result in
    let places = c.as_slice.result.now in
    let width = c.width-width.ensures ∙ ap coordinates_of c.space-space.ensures in
    made_live c.args.meter.now all c.args.names.now c.requires.names c.requires.among c.args.piece.now c.requires.piece c.requires.within
    columns places (ap₂ (λ m n. m + n) c.len.ensures.len width)
    (c.as_slice.ensures.value ∙ c.in_ok-places.ensures ∙ ap (λ n. places_in all c.args.names.now ++ range_with_len (length all) n) width)
    c.in_ok-system.system (c.in_ok-system.ensures.exact ∙ ap (placed_system columns places) c.system.ensures)

pub returns-clause-exact : goal.returns-clause-exact
returns-clause-exact c =
    let all = c.args.all.now in
    let names = c.args.names.now in
    let piece = c.args.piece.now in
    let columns = c.len.result + c.width-width.result in
    let places = c.as_slice.result.now in
    let width = c.width-width.ensures ∙ ap coordinates_of c.space-space.ensures in
    let system = c.in_ok-system.system in
    let is =
    made_aligned c.args.meter.now all names c.requires.names c.requires.among piece c.requires.piece c.requires.within columns places
    (ap₂ (λ m n. m + n) c.len.ensures.len width)
    (c.as_slice.ensures.value ∙ c.in_ok-places.ensures ∙ ap (λ n. places_in all names ++ range_with_len (length all) n) width)
    system (c.in_ok-system.ensures.exact ∙ ap (placed_system columns places) c.system.ensures) in
    IfOk-weaker c.settled_piece.result (λ m. kept_piece m ≡ settled (piece_of (space_form_of c.space-space.result.now) system))
    (λ m. kept_piece m ≡ aligned all names (kept_piece piece))
    (λ m e. e ∙ ap (λ (s : SpaceForm). settled (piece_of s system)) c.space-space.ensures ∙ is) c.settled_piece.ensures.exact

pub returns-clause-sound : goal.returns-clause-sound
returns-clause-sound c =
    let all = c.args.all.now in
    let columns = c.len.result + c.width-width.result in
    let places = c.as_slice.result.now in
    let width = c.width-width.ensures ∙ ap coordinates_of c.space-space.ensures in
    let free =
    made_free c.args.meter.now all c.args.names.now c.requires.names c.requires.among c.args.piece.now c.requires.piece c.requires.within
    columns places (ap₂ (λ m n. m + n) c.len.ensures.len width)
    (c.as_slice.ensures.value ∙ c.in_ok-places.ensures ∙ ap (λ n. places_in all c.args.names.now ++ range_with_len (length all) n) width)
    c.in_ok-system.system (c.in_ok-system.ensures.exact ∙ ap (placed_system columns places) c.system.ensures) in
    c.settled_piece.ensures.sound all (subst IsWellFormedSpace (sym c.space-space.ensures) c.requires.piece.kept.space)
    (free ∙ ap (columns_of all) (sym c.space-space.ensures))
