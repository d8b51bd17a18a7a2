use Rattle.std.proofs.Common.{◌≡◌, sym, refl, ◌∙◌, arith, ◌*◌, ◌<◌, IsTrue, length, map}
use Rattle.std.proofs.lemmas.Grind.{common_steps}
use Rattle.std.proofs.lemmas.Result.{err_from_is_err_and}
use Rattle.isl_meter.proofs.CutLemmas.{IsCharged_refl, IsCharged_trans}
use Rattle.isl_piece.specs.System.{IsSystemWithin}
use Rattle.isl_piece.proofs.FormedLaws.{system_within_kept}
use Rattle.isl_ledger.specs.Difference.{IsDifferenceSystem}
use Rattle.isl_difference.specs.Tame.{left_work}
use Rattle.isl_difference.proofs.TameLaws.{tame_cut, tame_ok}
use Rattle.isl_union.specs.Piece.{kept_piece}
use Rattle.isl_union.proofs.CompareLaws.{covered_first, covered_step}
use Rattle.isl_union.proofs.MeetSteps.{charged_bits, item_has, pieces_later}
use Rattle.isl_union.proofs.SizeLaws.{turn_fits, turn_more}
use Rattle.isl_union.proofs.TameLaws.{item_system}
use Rattle.isl_union.proofs.compare.are_covered.Goals as goal

pub is_piece_covered-requires-clause-piece_within : goal.is_piece_covered-requires-clause-piece_within
is_piece_covered-requires-clause-piece_within c =
    let low : c.loop-piece.piece-index < length c.args.pieces.now = omega arith in
    system_within_kept c.loop-piece.meter c.args.meter.now c.piece-item.result.system
    (charged_bits c.args.meter.now c.loop-piece.meter c.loop-piece.invariant.charged)
    (item_has (λ p. IsSystemWithin c.args.meter.now p.system) c.args.pieces.now c.loop-piece.piece-index c.piece-item.result low
    c.piece-item.is c.requires.pieces_within)

pub is_piece_covered-requires-clause-others_within : goal.is_piece_covered-requires-clause-others_within
is_piece_covered-requires-clause-others_within c =
    pieces_later c.args.meter.now c.loop-piece.meter c.args.others.now c.loop-piece.invariant.charged c.requires.others_within

pub loop-piece-init : goal.loop-piece-init
loop-piece-init c = record {
  covered = covered_first c.args.params.now (map kept_piece c.args.others.now);
  tame = λ columns bits limit room own others. omega arith;
  charged = IsCharged_refl c.args.meter.now c.args.meter.now refl;
}

pub loop-piece-preserved : goal.loop-piece-preserved
loop-piece-preserved c =
    let pieces = c.args.pieces.now in
    let i = c.loop-piece.piece-index in
    let low : i < length pieces = omega arith in
    let so_far = c.loop-piece.invariant in
    let covered : IsTrue c.in_ok-is_piece_covered.field-0 = grind (arith, common_steps) in
    record {
      covered = covered_step c.args.params.now pieces c.piece-item.result i (map kept_piece c.args.others.now) low c.piece-item.is
          so_far.covered (c.in_ok-is_piece_covered.ensures.exact.0 covered);
      tame = λ columns bits limit room own others.
          let n = length c.args.others.now in
          let first = so_far.tame columns bits limit room own others in
          let here = item_system (IsDifferenceSystem columns bits) pieces i c.piece-item.result low c.piece-item.is own in
          let later = sym (charged_bits c.args.meter.now c.loop-piece.meter so_far.charged) ∙ limit in
          let asked = c.in_ok-is_piece_covered.ensures.tame columns bits later room here others in
          let second = asked.within.units in
          let turns = turn_more i (left_work columns n) in
          omega (arith, first, second, turns);
      charged = IsCharged_trans c.args.meter.now c.loop-piece.meter c.is_piece_covered.new.meter so_far.charged
          c.in_ok-is_piece_covered.ensures.meter;
    }

-- ---- of difference constraints
pub returns-in_err-is_piece_covered-clause-tame : goal.returns-in_err-is_piece_covered-clause-tame
returns-in_err-is_piece_covered-clause-tame c = λ columns bits limit room own others.
    let g = c.args.meter.now in
    let h = c.loop-piece.meter in
    let pieces = c.args.pieces.now in
    let n = length c.args.others.now in
    let i = c.loop-piece.piece-index in
    let low : i < length pieces = omega arith in
    let so_far = c.loop-piece.invariant in
    let first = so_far.tame columns bits limit room own others in
    let here = item_system (IsDifferenceSystem columns bits) pieces i c.piece-item.result low c.piece-item.is own in
    let later = sym (charged_bits g h so_far.charged) ∙ limit in
    let p = err_from_is_err_and c.from_residual.result c.from_residual.ensures.1 in
    let cut = c.in_err-is_piece_covered.ensures.tame columns bits later room here others in
    rw (p.1, p.2) (tame_cut (i * left_work columns n) (left_work columns n) (length pieces * left_work columns n) g h
    c.is_piece_covered.new.meter _ _ c.in_err-is_piece_covered.field-0.0 so_far.charged first
    (turn_fits i (length pieces) (left_work columns n) low) cut)

pub returns-then-not-branch-clause-tame : goal.returns-then-not-branch-clause-tame
returns-then-not-branch-clause-tame c = λ columns bits limit room own others.
    let g = c.args.meter.now in
    let h = c.loop-piece.meter in
    let pieces = c.args.pieces.now in
    let n = length c.args.others.now in
    let i = c.loop-piece.piece-index in
    let low : i < length pieces = omega arith in
    let so_far = c.loop-piece.invariant in
    let first = so_far.tame columns bits limit room own others in
    let here = item_system (IsDifferenceSystem columns bits) pieces i c.piece-item.result low c.piece-item.is own in
    let later = sym (charged_bits g h so_far.charged) ∙ limit in
    let asked = c.in_ok-is_piece_covered.ensures.tame columns bits later room here others in
    let second = asked.within.units in
    let turns = turn_fits i (length pieces) (left_work columns n) low in
    tame_ok (length pieces * left_work columns n) g c.is_piece_covered.new.meter _ _ (omega (arith, first, second, turns)) tt

pub returns-clause-tame : goal.returns-clause-tame
returns-clause-tame c = λ columns bits limit room own others.
    let all : c.loop-piece.piece-index ≡ length c.args.pieces.now = grind (arith, common_steps) in
    let whole = rw all at (c.loop-piece.invariant.tame columns bits limit room own others) in
    tame_ok (length c.args.pieces.now * left_work columns (length c.args.others.now)) c.args.meter.now c.loop-piece.meter _ _ whole tt
