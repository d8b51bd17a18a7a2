use Rattle.std.proofs.Common.{◌≡◌, ◌∙◌, refl, sym, ap, arith, ◌+◌, ◌*◌, ◌<◌, length, map}
use Rattle.std.proofs.lemmas.Grind.{common_steps}
use Rattle.std.proofs.lemmas.List.Elements.{All-append, All-nil}
use Rattle.std.proofs.lemmas.Result.{err_from_is_err_and}
use Rattle.isl_piece.specs.System.{IsSystemWithin}
use Rattle.isl_piece.proofs.FormedLaws.{system_within_kept}
use Rattle.isl_ledger.specs.Difference.{IsDifferenceSystem}
use Rattle.isl_difference.specs.Tame.{test_work}
use Rattle.isl_difference.proofs.TameLaws.{tame_cut, tame_memory, tame_ok}
use Rattle.isl_union.specs.Piece.{kept_piece, IsPieceOf}
use Rattle.isl_union.specs.Tame.{size_of, systems_of}
use Rattle.isl_union.proofs.UnitLaws.{from_none}
use Rattle.isl_union.proofs.MeetSteps.{charged_bits, item_has, pieces_later, pieces_step, pieces_used}
use Rattle.isl_union.proofs.SizeLaws.{sizes_append, turn_fits, turn_more}
use Rattle.isl_union.proofs.TameLaws.{item_system, none_of_size}
use Rattle.isl_union.proofs.meet.met_pieces.Goals as goal

pub met_with-requires-clause-piece_within : goal.met_with-requires-clause-piece_within
met_with-requires-clause-piece_within c =
    let low : c.loop-piece.piece-index < length c.args.pieces.now = omega arith in
    system_within_kept c.loop-piece.meter c.args.meter.now c.piece-item.result.system
    (charged_bits c.args.meter.now c.loop-piece.meter c.loop-piece.invariant.used.charged)
    (item_has (λ p. IsSystemWithin c.args.meter.now p.system) c.args.pieces.now c.loop-piece.piece-index c.piece-item.result low
    c.piece-item.is c.requires.pieces_within)

pub met_with-requires-clause-others_within : goal.met_with-requires-clause-others_within
met_with-requires-clause-others_within c =
    pieces_later c.args.meter.now c.loop-piece.meter c.args.others.now c.loop-piece.invariant.used.charged c.requires.others_within

pub loop-piece-init : goal.loop-piece-init
loop-piece-init c =
    let g = c.args.meter.now in
    let none = c.new-met.ensures.items in
    record {
      met = ap (map kept_piece) none;
      sound = rw none (All-nil (IsPieceOf c.args.params.now));
      tame = λ columns bits limit room own all. (
        omega arith,
        none_of_size (size_of (0 * length c.args.others.now) columns bits) _ (ap systems_of none),
      );
      used = from_none g g refl;
    }

pub loop-piece-preserved : goal.loop-piece-preserved
loop-piece-preserved c =
    let pieces = c.args.pieces.now in
    let i = c.loop-piece.piece-index in
    let piece = c.piece-item.result in
    let params = c.args.params.now in
    let others = map kept_piece c.args.others.now in
    let low : i < length pieces = omega arith in
    let more = c.in_ok-more.more.items in
    let met = c.loop-piece.met.items in
    let so_far = c.loop-piece.invariant in
    record {
      met = pieces_step pieces piece i low c.piece-item.is params others met c.append.new.pieces.items more c.in_ok-more.ensures.exact
          c.in_ok-append.ensures so_far.met;
      sound = rw c.in_ok-append.ensures (All-append (IsPieceOf params) met more so_far.sound c.in_ok-more.ensures.sound);
      tame = λ columns bits limit room own all.
          let n = length c.args.others.now in
          let before = so_far.tame columns bits limit room own all in
          let here = item_system (IsDifferenceSystem columns bits) pieces i piece low c.piece-item.is own in
          let later = sym (charged_bits c.args.meter.now c.loop-piece.meter so_far.used.charged) ∙ limit in
          let asked = c.in_ok-more.ensures.tame columns bits later room here all in
          let first = before.0 in
          let second = asked.within.units in
          let turns = turn_more i (n * test_work columns) in (
            omega (arith, first, second, turns),
            sizes_append (i * n) n ((i + 1) * n) columns bits met more c.append.new.pieces.items (turn_more i n) c.in_ok-append.ensures
                before.1 asked.answer,
          );
      used = pieces_used pieces piece i low c.piece-item.is params others c.args.meter.now c.loop-piece.meter c.met_with.new.meter
          so_far.used
          c.in_ok-more.ensures.units;
    }

-- ---- of difference constraints
pub returns-in_err-more-clause-tame : goal.returns-in_err-more-clause-tame
returns-in_err-more-clause-tame c = λ columns bits limit room own all.
    let g = c.args.meter.now in
    let h = c.loop-piece.meter in
    let pieces = c.args.pieces.now in
    let w = length c.args.others.now * test_work columns in
    let i = c.loop-piece.piece-index in
    let low : i < length pieces = omega arith in
    let so_far = c.loop-piece.invariant in
    let first = (so_far.tame columns bits limit room own all).0 in
    let here = item_system (IsDifferenceSystem columns bits) pieces i c.piece-item.result low c.piece-item.is own in
    let later = sym (charged_bits g h so_far.used.charged) ∙ limit in
    let turns = turn_fits i (length pieces) w low in
    let p = err_from_is_err_and c.from_residual.result c.from_residual.ensures.1 in
    rw (p.1, p.2) (tame_cut (i * w) w (length pieces * w) g h c.met_with.new.meter _ _ c.in_err-more.field-0.0 so_far.used.charged first turns
    (c.in_err-more.ensures.tame columns bits later room here all))

pub returns-in_err-append-clause-tame : goal.returns-in_err-append-clause-tame
returns-in_err-append-clause-tame c = λ columns bits limit room own all.
    let g = c.args.meter.now in
    let h = c.loop-piece.meter in
    let pieces = c.args.pieces.now in
    let w = length c.args.others.now * test_work columns in
    let i = c.loop-piece.piece-index in
    let low : i < length pieces = omega arith in
    let so_far = c.loop-piece.invariant in
    let first = (so_far.tame columns bits limit room own all).0 in
    let here = item_system (IsDifferenceSystem columns bits) pieces i c.piece-item.result low c.piece-item.is own in
    let later = sym (charged_bits g h so_far.used.charged) ∙ limit in
    let turns = turn_fits i (length pieces) w low in
    let p = err_from_is_err_and c.from_residual-in_err-append.result c.from_residual-in_err-append.ensures.1 in
    let second = (c.in_ok-more.ensures.tame columns bits later room here all).within.units in
    rw (p.1, p.2) (tame_memory (i * w + w) (length pieces * w) g c.met_with.new.meter _ (omega (arith, first, second)) turns)

pub returns-clause-tame : goal.returns-clause-tame
returns-clause-tame c = λ columns bits limit room own all.
    let end : c.loop-piece.piece-index ≡ length c.args.pieces.now = grind (arith, common_steps) in
    let whole = rw end at (c.loop-piece.invariant.tame columns bits limit room own all) in
    tame_ok (length c.args.pieces.now * (length c.args.others.now * test_work columns)) c.args.meter.now c.loop-piece.meter _ _ whole.0 whole.1
