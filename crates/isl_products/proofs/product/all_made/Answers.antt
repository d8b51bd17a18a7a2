use Rattle.std.proofs.Common.{◌≡◌, [], Any, arith, ◌<◌, ◌≤◌, length, map}
use Rattle.isl_piece.specs.Piece.{PieceView}
use Rattle.isl_piece.specs.System.{IsSystemWithin}
use Rattle.isl_piece.proofs.FormedLaws.{system_within_kept}
use Rattle.isl_union.specs.KeptValue.{KeptPiece}
use Rattle.isl_union.specs.Piece.{kept_piece}
use Rattle.isl_union.proofs.MeetSteps.{charged_bits, item_has, pieces_later}
use Rattle.isl_union.proofs.PiecesLaws.{plain_more}
use Rattle.isl_relation.specs.Together.{spaces_of}
use Rattle.isl_relation.proofs.TogetherLaws.{piece_pays}
use Rattle.isl_products.specs.Layout.{IsWide, are_together}
use Rattle.isl_products.specs.Made.{IsMadeWith}
use Rattle.isl_products.proofs.PairLaws.{made_at_end, made_next}
use Rattle.isl_products.proofs.WideLaws.{not_next}
use Rattle.isl_products.proofs.product.all_made.Goals as goal

pub made_with-requires-clause-piece_within : goal.made_with-requires-clause-piece_within
made_with-requires-clause-piece_within c =
    let low : c.loop-piece.piece-index < length c.args.pieces.now = omega arith in
    system_within_kept c.loop-piece.meter c.args.meter.now c.piece-item.result.system
    (charged_bits c.args.meter.now c.loop-piece.meter c.loop-piece.invariant.used.charged)
    (item_has (λ p. IsSystemWithin c.args.meter.now p.system) c.args.pieces.now c.loop-piece.piece-index c.piece-item.result low
    c.piece-item.is c.requires.pieces_within)

pub made_with-requires-clause-others_within : goal.made_with-requires-clause-others_within
made_with-requires-clause-others_within c =
    pieces_later c.args.meter.now c.loop-piece.meter c.args.others.now c.loop-piece.invariant.used.charged c.requires.others_within

pub made_with-requires-clause-narrow : goal.made_with-requires-clause-narrow
made_with-requires-clause-narrow c =
    let low : c.loop-piece.piece-index < length c.args.pieces.now = omega arith in
    not_next (λ a. Any (λ (b : KeptPiece). IsWide c.args.product a.space b.space) (map kept_piece c.args.others.now)) c.args.pieces.now
    c.loop-piece.piece-index c.piece-item.result low c.piece-item.is c.requires.narrow

pub loop-piece-preserved : goal.loop-piece-preserved
loop-piece-preserved c =
    let params = c.args.params.now in
    let pieces = c.args.pieces.now in
    let others = c.args.others.now in
    let i = c.loop-piece.piece-index in
    let piece = c.piece-item.result in
    let g = c.args.meter.now in
    let h = c.loop-piece.meter in
    let low : i < length pieces = omega arith in
    let so_far = c.loop-piece.invariant in
    let one = c.in_ok-made_with.ensures in
    record {
      made = made_next g h params (IsMadeWith c.args.product params (map kept_piece others)) pieces piece i
          c.loop-piece.made.items c.in_ok-made_with.field-0.items c.append.new.pieces.items so_far.used.charged low c.piece-item.is
          so_far.made
          c.in_ok-append.ensures one.elements one.sound one.numbers;
      definitions = λ own all.
          let P : PieceView → Type 0 = λ p. p.system.definitions ≡ [] in
          let here = item_has P pieces i piece low c.piece-item.is own in
          plain_more c.loop-piece.made.items c.in_ok-made_with.field-0.items c.append.new.pieces.items c.in_ok-append.ensures
          (so_far.definitions own all) (one.definitions here all);
      used = piece_pays (are_together c.args.product) pieces piece i low c.piece-item.is (spaces_of others) g h c.made_with.new.meter
          so_far.used one.units;
    }

pub returns-clause-elements : goal.returns-clause-elements
returns-clause-elements c v e =
    let end : length c.args.pieces.now ≤ c.loop-piece.piece-index = omega arith in
    (made_at_end c.args.meter.now c.args.params.now (IsMadeWith c.args.product c.args.params.now (map kept_piece c.args.others.now))
    c.args.pieces.now c.loop-piece.made.items c.loop-piece.piece-index end c.loop-piece.invariant.made).elements v e
