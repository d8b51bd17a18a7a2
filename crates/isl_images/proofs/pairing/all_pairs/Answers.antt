use Rattle.std.proofs.Common.{refl, arith, ◌<◌, ◌≤◌, length}
use Rattle.std.specs.List.{All}
use Rattle.isl_piece.specs.System.{IsSystemWithin}
use Rattle.isl_piece.proofs.FormedLaws.{system_within_kept}
use Rattle.isl_union.proofs.MeetSteps.{charged_bits, item_has, pieces_later}
use Rattle.isl_union.proofs.UnitLaws.{from_none}
use Rattle.isl_relation.specs.Together.{spaces_of}
use Rattle.isl_relation.proofs.TogetherLaws.{piece_pays}
use Rattle.isl_images.specs.Made.{elements_of_all}
use Rattle.isl_images.specs.Pairing.{IsNarrowPair, PairHas, are_paired}
use Rattle.isl_images.proofs.MadeLaws.{of_all, of_more, of_none}
use Rattle.isl_images.proofs.PairingLaws.{first_additive}
use Rattle.isl_images.proofs.pairing.all_pairs.Goals as goal

pub loop-piece-init : goal.loop-piece-init
loop-piece-init c =
    let params = c.args.params.now in
    let pairing = c.args.pairing in
    let others = c.args.others.now in
    record {
      made = of_none c.args.meter.now params (λ v M. PairHas pairing M (elements_of_all params others v))
          (λ v. first_additive pairing (elements_of_all params others v)) ⊥
          c.new-made.result.items c.new-made.ensures.items;
      used = from_none c.args.meter.now c.args.meter.now refl;
    }

pub pieces_with-requires-clause-piece_within : goal.pieces_with-requires-clause-piece_within
pieces_with-requires-clause-piece_within c =
    let low : c.loop-piece.piece-index < length c.args.pieces.now = omega arith in
    system_within_kept c.loop-piece.meter c.args.meter.now c.piece-item.result.system
    (charged_bits c.args.meter.now c.loop-piece.meter c.loop-piece.invariant.used.charged)
    (item_has (λ p. IsSystemWithin c.args.meter.now p.system) c.args.pieces.now c.loop-piece.piece-index c.piece-item.result low
    c.piece-item.is c.requires.pieces_within)

pub pieces_with-requires-clause-others_within : goal.pieces_with-requires-clause-others_within
pieces_with-requires-clause-others_within c =
    pieces_later c.args.meter.now c.loop-piece.meter c.args.others.now c.loop-piece.invariant.used.charged c.requires.others_within

pub pieces_with-requires-clause-narrow : goal.pieces_with-requires-clause-narrow
pieces_with-requires-clause-narrow c =
    let low : c.loop-piece.piece-index < length c.args.pieces.now = omega arith in
    item_has (λ p. All (λ q. IsNarrowPair c.args.pairing p.space q.space) c.args.others.now) c.args.pieces.now c.loop-piece.piece-index
    c.piece-item.result low c.piece-item.is c.requires.narrow

pub loop-piece-preserved : goal.loop-piece-preserved
loop-piece-preserved c =
    let g = c.args.meter.now in
    let params = c.args.params.now in
    let pairing = c.args.pairing in
    let pieces = c.args.pieces.now in
    let others = c.args.others.now in
    let i = c.loop-piece.piece-index in
    let piece = c.piece-item.result in
    let so_far = c.loop-piece.invariant in
    let low : i < length pieces = omega arith in
    record {
      made = of_more g params (λ v M. PairHas pairing M (elements_of_all params others v))
          (λ v. first_additive pairing (elements_of_all params others v)) ⊥ pieces i piece low
          c.piece-item.is ⊥
          (λ never. never) c.loop-piece.meter so_far.used.charged
          c.loop-piece.made.items c.in_ok-pieces_with.field-0.items c.append.new.pieces.items c.in_ok-append.ensures so_far.made
          c.in_ok-pieces_with.ensures.made;
      used = piece_pays (are_paired pairing) pieces piece i low c.piece-item.is (spaces_of others) g c.loop-piece.meter
          c.pieces_with.new.meter so_far.used c.in_ok-pieces_with.ensures.units;
    }

pub returns-clause-made : goal.returns-clause-made
returns-clause-made c =
    let params = c.args.params.now in
    let pairing = c.args.pairing in
    let pieces = c.args.pieces.now in
    let others = c.args.others.now in
    let i = c.loop-piece.piece-index in
    let end : length pieces ≤ i = omega arith in
    of_all c.args.meter.now params (λ v M. PairHas pairing M (elements_of_all params others v))
    (λ v. first_additive pairing (elements_of_all params others v)) ⊥ pieces i end
    c.loop-piece.made.items c.loop-piece.invariant.made
