use Rattle.std.proofs.Common.{◌≡◌, [], arith, ◌<◌, ◌≤◌, length, map}
use Rattle.std.proofs.lemmas.List.{take_all}
use Rattle.isl_meter.proofs.CutLemmas.{IsCharged_trans}
use Rattle.isl_piece.specs.Piece.{PieceView}
use Rattle.isl_piece.specs.System.{IsSystemWithin}
use Rattle.isl_piece.proofs.FormedLaws.{system_within_kept}
use Rattle.isl_union.specs.Piece.{kept_piece}
use Rattle.isl_union.proofs.CountLaws.{counted_more}
use Rattle.isl_union.proofs.MeetSteps.{charged_bits, item_has, pieces_later}
use Rattle.isl_union.proofs.PiecesLaws.{plain_more}
use Rattle.isl_products.specs.Made.{IsApartFrom}
use Rattle.isl_products.proofs.PairLaws.{made_at_end, made_next}
use Rattle.isl_products.proofs.remove.pieces_without.Goals as goal

pub piece_without-requires-clause-piece_within : goal.piece_without-requires-clause-piece_within
piece_without-requires-clause-piece_within c =
    let low : c.loop-piece.piece-index < length c.args.pieces.now = omega arith in
    system_within_kept c.loop-piece.meter c.args.meter.now c.piece-item.result.system
    (charged_bits c.args.meter.now c.loop-piece.meter c.loop-piece.invariant.charged)
    (item_has (λ p. IsSystemWithin c.args.meter.now p.system) c.args.pieces.now c.loop-piece.piece-index c.piece-item.result low
    c.piece-item.is c.requires.pieces_within)

pub piece_without-requires-clause-others_within : goal.piece_without-requires-clause-others_within
piece_without-requires-clause-others_within c =
    pieces_later c.args.meter.now c.loop-piece.meter c.args.others.now c.loop-piece.invariant.charged c.requires.others_within

pub loop-piece-preserved : goal.loop-piece-preserved
loop-piece-preserved c =
    let params = c.args.params.now in
    let pieces = c.args.pieces.now in
    let others = c.args.others.now in
    let i = c.loop-piece.piece-index in
    let piece = c.piece-item.result in
    let g = c.args.meter.now in
    let h = c.loop-piece.meter in
    let low : i < length pieces = omega arith in
    let so_far = c.loop-piece.invariant in
    let one = c.in_ok-piece_without.ensures in
    record {
      left = made_next g h params (IsApartFrom c.args.place params (map kept_piece others)) pieces piece i
          c.loop-piece.left.items c.in_ok-piece_without.field-0.items c.append.new.pieces.items so_far.charged low c.piece-item.is
          so_far.left
          c.in_ok-append.ensures one.elements one.sound one.numbers;
      definitions = λ own all.
          let P : PieceView → Type 0 = λ p. p.system.definitions ≡ [] in
          let here = item_has P pieces i piece low c.piece-item.is own in
          plain_more c.loop-piece.left.items c.in_ok-piece_without.field-0.items c.append.new.pieces.items c.in_ok-append.ensures
          (so_far.definitions own all) (one.definitions here all);
      charged = IsCharged_trans g h c.piece_without.new.meter so_far.charged one.meter;
      counted = counted_more g h c.piece_without.new.meter pieces piece i c.loop-piece.left.items c.in_ok-piece_without.field-0.items
          c.append.new.pieces.items low c.in_ok-append.ensures so_far.counted one.counted;
    }

pub returns-clause-elements : goal.returns-clause-elements
returns-clause-elements c v e =
    let end : length c.args.pieces.now ≤ c.loop-piece.piece-index = omega arith in
    (made_at_end c.args.meter.now c.args.params.now (IsApartFrom c.args.place c.args.params.now (map kept_piece c.args.others.now))
    c.args.pieces.now c.loop-piece.left.items c.loop-piece.piece-index end c.loop-piece.invariant.left).elements v e

pub returns-clause-counted : goal.returns-clause-counted
returns-clause-counted c =
    let end : length c.args.pieces.now ≤ c.loop-piece.piece-index = omega arith in
    rw (take_all c.loop-piece.piece-index c.args.pieces.now end) at c.loop-piece.invariant.counted
