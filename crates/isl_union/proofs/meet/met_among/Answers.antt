use Rattle.std.proofs.Common.{◌≡◌, ◌∙◌, refl, sym, ap, arith, ◌+◌, ◌*◌, ◌<◌, length, map}
use Rattle.std.proofs.lemmas.Grind.{common_steps}
use Rattle.std.proofs.lemmas.List.Elements.{All-nil}
use Rattle.std.proofs.lemmas.Result.{err_from_is_err_and}
use Rattle.isl_piece.specs.System.{IsSystemWithin}
use Rattle.isl_piece.proofs.FormedLaws.{system_within_kept}
use Rattle.isl_ledger.specs.Difference.{IsDifferenceSystem}
use Rattle.isl_difference.specs.Tame.{test_work}
use Rattle.isl_difference.proofs.TameLaws.{tame_cut, tame_memory, tame_ok}
use Rattle.isl_union.specs.Piece.{kept_piece, IsPieceOf}
use Rattle.isl_union.specs.Tame.{size_of, systems_of}
use Rattle.isl_union.proofs.UnitLaws.{from_none}
use Rattle.isl_union.proofs.MeetSteps.{charged_bits, found_sound, item_has, with_step, with_used}
use Rattle.isl_union.proofs.SizeLaws.{turn_fits, turn_more}
use Rattle.isl_union.proofs.TameLaws.{found_more, item_system, none_of_size}
use Rattle.isl_union.proofs.meet.met_among.Goals as goal

pub met_piece-requires-clause-own_within : goal.met_piece-requires-clause-own_within
met_piece-requires-clause-own_within c =
    system_within_kept c.loop-other.meter c.args.meter.now c.args.piece.now.system
    (charged_bits c.args.meter.now c.loop-other.meter c.loop-other.invariant.used.charged) c.requires.piece_within

pub met_piece-requires-clause-other_within : goal.met_piece-requires-clause-other_within
met_piece-requires-clause-other_within c =
    let low : c.loop-other.other-index < length c.args.others.now = omega arith in
    system_within_kept c.loop-other.meter c.args.meter.now c.other-item.result.system
    (charged_bits c.args.meter.now c.loop-other.meter c.loop-other.invariant.used.charged)
    (item_has (λ p. IsSystemWithin c.args.meter.now p.system) c.args.others.now c.loop-other.other-index c.other-item.result low
    c.other-item.is c.requires.others_within)

pub loop-other-init : goal.loop-other-init
loop-other-init c =
    let g = c.args.meter.now in
    let none = c.new-met.ensures.items in
    record {
      met = ap (map kept_piece) none;
      sound = rw none (All-nil (IsPieceOf c.args.params.now));
      tame = λ columns bits limit room own all. (omega arith, none_of_size (size_of 0 columns bits) _ (ap systems_of none));
      used = from_none g g refl;
    }

pub loop-other-preserved : goal.loop-other-preserved
loop-other-preserved c =
    let others = c.args.others.now in
    let i = c.loop-other.other-index in
    let other = c.other-item.result in
    let params = c.args.params.now in
    let piece = kept_piece c.args.piece.now in
    let low : i < length others = omega arith in
    let found = c.in_ok-met_piece.field-0 in
    let met = c.loop-other.met.items in
    let so_far = c.loop-other.invariant in
    record {
      met = with_step others other i low c.other-item.is params piece met c.push_found.new.kept.items found c.in_ok-met_piece.ensures.exact
          c.in_ok-push_found.ensures so_far.met;
      sound = found_sound (IsPieceOf params) met c.push_found.new.kept.items found so_far.sound c.in_ok-met_piece.ensures.sound
          c.in_ok-push_found.ensures;
      tame = λ columns bits limit room own all.
          let before = so_far.tame columns bits limit room own all in
          let here = item_system (IsDifferenceSystem columns bits) others i other low c.other-item.is all in
          let later = sym (charged_bits c.args.meter.now c.loop-other.meter so_far.used.charged) ∙ limit in
          let asked = c.in_ok-met_piece.ensures.tame columns bits later room own here in
          let first = before.0 in
          let second = asked.within.units in
          let turns = turn_more i (test_work columns) in (
            omega (arith, first, second, turns),
            found_more i columns bits met c.push_found.new.kept.items found c.in_ok-push_found.ensures asked.answer before.1,
          );
      used = with_used others other i low c.other-item.is params piece c.args.meter.now c.loop-other.meter c.met_piece.new.meter so_far.used
          c.in_ok-met_piece.ensures.units;
    }

-- ---- of difference constraints
pub returns-in_err-met_piece-clause-tame : goal.returns-in_err-met_piece-clause-tame
returns-in_err-met_piece-clause-tame c = λ columns bits limit room own all.
    let g = c.args.meter.now in
    let h = c.loop-other.meter in
    let others = c.args.others.now in
    let i = c.loop-other.other-index in
    let low : i < length others = omega arith in
    let so_far = c.loop-other.invariant in
    let first = (so_far.tame columns bits limit room own all).0 in
    let here = item_system (IsDifferenceSystem columns bits) others i c.other-item.result low c.other-item.is all in
    let later = sym (charged_bits g h so_far.used.charged) ∙ limit in
    let turns = turn_fits i (length others) (test_work columns) low in
    let p = err_from_is_err_and c.from_residual.result c.from_residual.ensures.1 in
    rw (p.1, p.2) (tame_cut (i * test_work columns) (test_work columns) (length others * test_work columns) g h c.met_piece.new.meter _ _
    c.in_err-met_piece.field-0.0 so_far.used.charged first turns (c.in_err-met_piece.ensures.tame columns bits later room own here))

pub returns-in_err-push_found-clause-tame : goal.returns-in_err-push_found-clause-tame
returns-in_err-push_found-clause-tame c = λ columns bits limit room own all.
    let g = c.args.meter.now in
    let h = c.loop-other.meter in
    let others = c.args.others.now in
    let i = c.loop-other.other-index in
    let low : i < length others = omega arith in
    let so_far = c.loop-other.invariant in
    let first = (so_far.tame columns bits limit room own all).0 in
    let here = item_system (IsDifferenceSystem columns bits) others i c.other-item.result low c.other-item.is all in
    let later = sym (charged_bits g h so_far.used.charged) ∙ limit in
    let turns = turn_fits i (length others) (test_work columns) low in
    let p = err_from_is_err_and c.from_residual-in_err-push_found.result c.from_residual-in_err-push_found.ensures.1 in
    let second = (c.in_ok-met_piece.ensures.tame columns bits later room own here).within.units in
    rw (p.1, p.2) (tame_memory (i * test_work columns + test_work columns) (length others * test_work columns) g c.met_piece.new.meter _
    (omega (arith, first, second)) turns)

pub returns-clause-tame : goal.returns-clause-tame
returns-clause-tame c = λ columns bits limit room own all.
    let end : c.loop-other.other-index ≡ length c.args.others.now = grind (arith, common_steps) in
    let whole = rw end at (c.loop-other.invariant.tame columns bits limit room own all) in
    tame_ok (length c.args.others.now * test_work columns) c.args.meter.now c.loop-other.meter _ _ whole.0 whole.1
