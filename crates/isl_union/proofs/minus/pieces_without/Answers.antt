use Rattle.std.proofs.Common.{◌≡◌, refl, sym, ap, ◌∙◌, subst, arith, ◌+◌, ◌*◌, ◌<◌, ◌≤◌, [], All, length, map}
use Rattle.std.proofs.lemmas.Grind.{common_steps}
use Rattle.std.proofs.lemmas.Result.{err_from_is_err_and}
use Rattle.isl_meter.proofs.CutLemmas.{IsCharged_refl, IsCharged_trans}
use Rattle.isl_piece.specs.System.{IsSystemWithin}
use Rattle.isl_piece.proofs.FormedLaws.{system_within_kept}
use Rattle.isl_ledger.specs.Difference.{IsDifferenceSystem}
use Rattle.isl_difference.specs.Tame.{left_work, part_limit}
use Rattle.isl_difference.proofs.TameLaws.{tame_cut, tame_memory, tame_ok}
use Rattle.isl_union.specs.Piece.{kept_piece}
use Rattle.isl_union.specs.Tame.{minus_size, systems_of}
use Rattle.std.proofs.lemmas.List.{take_all}
use Rattle.std.proofs.lemmas.List.Elements.{All-append, All-nil}
use Rattle.isl_piece.specs.Piece.{PieceView}
use Rattle.isl_union.proofs.CountLaws.{counted_more}
use Rattle.isl_union.proofs.MeetSteps.{charged_bits, item_has, pieces_later}
use Rattle.isl_union.proofs.MinusLaws.{left_first, left_step}
use Rattle.isl_union.proofs.SizeLaws.{sizes_append, turn_fits, turn_more}
use Rattle.isl_union.proofs.TameLaws.{item_system, none_of_size}
use Rattle.isl_union.proofs.minus.pieces_without.Goals as goal

pub piece_without-requires-clause-piece_within : goal.piece_without-requires-clause-piece_within
piece_without-requires-clause-piece_within c =
    let low : c.loop-piece.piece-index < length c.args.pieces.now = omega arith in
    system_within_kept c.loop-piece.meter c.args.meter.now c.piece-item.result.system
    (charged_bits c.args.meter.now c.loop-piece.meter c.loop-piece.invariant.charged)
    (item_has (λ p. IsSystemWithin c.args.meter.now p.system) c.args.pieces.now c.loop-piece.piece-index c.piece-item.result low
    c.piece-item.is c.requires.pieces_within)

pub piece_without-requires-clause-others_within : goal.piece_without-requires-clause-others_within
piece_without-requires-clause-others_within c =
    pieces_later c.args.meter.now c.loop-piece.meter c.args.others.now c.loop-piece.invariant.charged c.requires.others_within

pub loop-piece-init : goal.loop-piece-init
loop-piece-init c =
    let g = c.args.meter.now in
    let none = c.new-left.ensures.items in
    record {
      left = rw none (left_first g c.args.params.now (map kept_piece c.args.others.now));
      definitions = λ own others. rw none (All-nil (λ (p : PieceView). p.system.definitions ≡ []));
      tame = λ columns bits limit room own others. (
        omega arith,
        none_of_size (minus_size 0 (length c.args.others.now) columns bits) _ (ap systems_of none),
      );
      charged = IsCharged_refl g g refl;
      counted = rw none (omega arith);
    }

pub loop-piece-preserved : goal.loop-piece-preserved
loop-piece-preserved c =
    let pieces = c.args.pieces.now in
    let i = c.loop-piece.piece-index in
    let piece = c.piece-item.result in
    let others = map kept_piece c.args.others.now in
    let g = c.args.meter.now in
    let h = c.loop-piece.meter in
    let low : i < length pieces = omega arith in
    let so_far = c.loop-piece.invariant in
    record {
      left = left_step g h c.args.params.now pieces piece i others c.loop-piece.left.items c.in_ok-parts.parts.items
          c.append.new.pieces.items so_far.charged low c.piece-item.is so_far.left c.in_ok-parts.ensures.exact
          c.in_ok-append.ensures;
      definitions = λ own none.
          let P : PieceView → Type 0 = λ p. p.system.definitions ≡ [] in
          let here = item_has P pieces i piece low c.piece-item.is own in
          subst (All P) (sym c.in_ok-append.ensures)
          (All-append P c.loop-piece.left.items c.in_ok-parts.parts.items (so_far.definitions own none)
          (c.in_ok-parts.ensures.definitions here none));
      tame = λ columns bits limit room own more.
          let n = length c.args.others.now in
          let before = so_far.tame columns bits limit room own more in
          let here = item_system (IsDifferenceSystem columns bits) pieces i piece low c.piece-item.is own in
          let asked = c.in_ok-parts.ensures.tame columns bits (sym (charged_bits g h so_far.charged) ∙ limit) room here more in
          let first = before.0 in
          let second = asked.within.units in
          let turns = turn_more i (left_work columns n) in (
            omega (arith, first, second, turns),
            sizes_append (i * part_limit columns n) (part_limit columns n) ((i + 1) * part_limit columns n) columns (bits + 1)
                c.loop-piece.left.items c.in_ok-parts.parts.items c.append.new.pieces.items (turn_more i (part_limit columns n))
                c.in_ok-append.ensures before.1 asked.answer,
          );
      charged = IsCharged_trans g h c.piece_without.new.meter so_far.charged c.in_ok-parts.ensures.meter;
      counted = counted_more g h c.piece_without.new.meter pieces piece i c.loop-piece.left.items c.in_ok-parts.parts.items
          c.append.new.pieces.items low c.in_ok-append.ensures so_far.counted c.in_ok-parts.ensures.counted;
    }

pub returns-clause-counted : goal.returns-clause-counted
returns-clause-counted c =
    let end : length c.args.pieces.now ≤ c.loop-piece.piece-index = omega arith in
    rw (take_all c.loop-piece.piece-index c.args.pieces.now end) at c.loop-piece.invariant.counted

pub returns-clause-definitions : goal.returns-clause-definitions
returns-clause-definitions c = λ own others. c.loop-piece.invariant.definitions own others

-- ---- of difference constraints
pub returns-in_err-parts-clause-tame : goal.returns-in_err-parts-clause-tame
returns-in_err-parts-clause-tame c = λ columns bits limit room own others.
    let g = c.args.meter.now in
    let h = c.loop-piece.meter in
    let pieces = c.args.pieces.now in
    let n = length c.args.others.now in
    let i = c.loop-piece.piece-index in
    let low : i < length pieces = omega arith in
    let so_far = c.loop-piece.invariant in
    let before = so_far.tame columns bits limit room own others in
    let here = item_system (IsDifferenceSystem columns bits) pieces i c.piece-item.result low c.piece-item.is own in
    let later = sym (charged_bits g h so_far.charged) ∙ limit in
    let p = err_from_is_err_and c.from_residual.result c.from_residual.ensures.1 in
    let cut = c.in_err-parts.ensures.tame columns bits later room here others in
    rw (p.1, p.2) (tame_cut (i * left_work columns n) (left_work columns n) (length pieces * left_work columns n) g h
    c.piece_without.new.meter _ _ c.in_err-parts.field-0.0 so_far.charged before.0 (turn_fits i (length pieces) (left_work columns n) low) cut)

pub returns-in_err-append-clause-tame : goal.returns-in_err-append-clause-tame
returns-in_err-append-clause-tame c = λ columns bits limit room own others.
    let g = c.args.meter.now in
    let h = c.loop-piece.meter in
    let pieces = c.args.pieces.now in
    let n = length c.args.others.now in
    let i = c.loop-piece.piece-index in
    let low : i < length pieces = omega arith in
    let so_far = c.loop-piece.invariant in
    let before = so_far.tame columns bits limit room own others in
    let here = item_system (IsDifferenceSystem columns bits) pieces i c.piece-item.result low c.piece-item.is own in
    let later = sym (charged_bits g h so_far.charged) ∙ limit in
    let p = err_from_is_err_and c.from_residual-in_err-append.result c.from_residual-in_err-append.ensures.1 in
    let asked = c.in_ok-parts.ensures.tame columns bits later room here others in
    let first = before.0 in
    let second = asked.within.units in
    rw (p.1, p.2) (tame_memory (i * left_work columns n + left_work columns n) (length pieces * left_work columns n) g
    c.piece_without.new.meter _ (omega (arith, first, second)) (turn_fits i (length pieces) (left_work columns n) low))

pub returns-clause-tame : goal.returns-clause-tame
returns-clause-tame c = λ columns bits limit room own others.
    let all : c.loop-piece.piece-index ≡ length c.args.pieces.now = grind (arith, common_steps) in
    let whole = rw all at (c.loop-piece.invariant.tame columns bits limit room own others) in
    tame_ok (length c.args.pieces.now * left_work columns (length c.args.others.now)) c.args.meter.now c.loop-piece.meter _ _ whole.0 whole.1
