use Rattle.std.proofs.Common.{All, IfSome, sym, subst, option_map}
use Rattle.std.proofs.lemmas.Result.{IfOk-weaker}
use Rattle.isl_meter.specs.Gauge.{Gauge}
use Rattle.isl_space.specs.Space.{space_form_of}
use Rattle.isl_space.specs.SpaceForm.{IsWellFormedSpace}
use Rattle.isl_piece.specs.Row.{IsRowWithin}
use Rattle.isl_piece.specs.System.{IsSystemWithin}
use Rattle.isl_union.specs.Live.{normal_of, IsLiveOf}
use Rattle.isl_union.specs.Piece.{kept_piece, piece_of, IsPieceOf}
use Rattle.isl_plain.specs.Rows.{rows_written}
use Rattle.isl_lower.specs.Value.{piece_lowered}
use Rattle.isl_lower.proofs.ValueLaws.{found_within, made_free, made_lowered, system_made, there_within, width_made}
use Rattle.isl_lower.proofs.piece.lower_plain.Goals as goal

pub live_piece-requires : goal.live_piece-requires
live_piece-requires c =
    let params = c.args.params.now in
    let piece = c.args.piece.now in
    let plain = c.requires.plain in
    let h = c.rows_written.new.meter in
    let written = c.in_ok-rows.ensures.rows in
    let s = c.from_rows-system.result in
    let wide = width_made params piece plain (space_form_of c.in_ok-space.space) c.width.result c.in_ok-space.ensures c.width.ensures in
    let is = system_made params piece plain c.in_ok-rows.rows _ s written.0 wide c.from_rows-system.ensures in
    let fits : All (IsRowWithin h) (rows_written params piece) =
    subst (λ (g : Gauge). All (IsRowWithin g) (rows_written params piece)) (sym written.2) (rw written.0 at written.1) in
    subst (IsSystemWithin h) (sym is) (there_within params piece plain h fits)

pub returns-clause-found : goal.returns-clause-found
returns-clause-found c =
    let g = c.args.meter.now in
    let params = c.args.params.now in
    let piece = c.args.piece.now in
    let plain = c.requires.plain in
    let written = c.in_ok-rows.ensures.rows in
    let s = c.from_rows-system.result in
    let space = space_form_of c.in_ok-space.space in
    let same = c.in_ok-space.ensures in
    let wide = width_made params piece plain space c.width.result same c.width.ensures in
    let is = system_made params piece plain c.in_ok-rows.rows _ s written.0 wide c.from_rows-system.ensures in
    let fits = rw written.0 at written.1 in
    let formed = subst IsWellFormedSpace (sym same) c.requires.well_formed in
    IfOk-weaker c.live_piece.result
    (λ found. IsLiveOf params (normal_of (piece_of space s)) (option_map kept_piece found) × IfSome found (IsPieceOf params))
    (λ found. IsLiveOf params (piece_lowered params piece) (option_map kept_piece found) × IfSome found (IsPieceOf params)
    × IfSome found (λ kept. IsSystemWithin g kept.system))
    (λ found h. let exact = made_lowered params piece plain space s same is (option_map kept_piece found) h.0 in
    (exact, h.1, found_within params piece plain g fits found exact h.1))
    (c.live_piece.ensures.found params formed (made_free params piece plain space s same is))
