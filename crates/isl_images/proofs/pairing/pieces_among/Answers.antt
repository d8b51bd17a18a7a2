use Rattle.std.proofs.Common.{refl, arith, ◌<◌, ◌≤◌, length}
use Rattle.isl_piece.specs.System.{IsSystemWithin}
use Rattle.isl_piece.proofs.FormedLaws.{system_within_kept}
use Rattle.isl_union.proofs.MeetSteps.{charged_bits, item_has}
use Rattle.isl_union.proofs.UnitLaws.{from_none}
use Rattle.isl_relation.proofs.TogetherLaws.{partner_pays}
use Rattle.isl_images.specs.Made.{elements_of}
use Rattle.isl_images.specs.Pairing.{IsNarrowPair, PairHas, are_paired}
use Rattle.isl_images.proofs.MadeLaws.{of_all, of_more, of_none}
use Rattle.isl_images.proofs.PairingLaws.{second_additive}
use Rattle.isl_images.proofs.pairing.pieces_among.Goals as goal

pub loop-other-init : goal.loop-other-init
loop-other-init c =
    let params = c.args.params.now in
    let pairing = c.args.pairing in
    let piece = c.args.piece.now in
    record {
      made = of_none c.args.meter.now params (λ v. PairHas pairing (elements_of params piece v))
          (λ v. second_additive pairing (elements_of params piece v)) ⊥
          c.new-made.result.items c.new-made.ensures.items;
      used = from_none c.args.meter.now c.args.meter.now refl;
    }

pub pair_pieces-requires-clause-first_within : goal.pair_pieces-requires-clause-first_within
pair_pieces-requires-clause-first_within c =
    system_within_kept c.loop-other.meter c.args.meter.now c.args.piece.now.system
    (charged_bits c.args.meter.now c.loop-other.meter c.loop-other.invariant.used.charged) c.requires.piece_within

pub pair_pieces-requires-clause-second_within : goal.pair_pieces-requires-clause-second_within
pair_pieces-requires-clause-second_within c =
    let low : c.loop-other.other-index < length c.args.others.now = omega arith in
    system_within_kept c.loop-other.meter c.args.meter.now c.other-item.result.system
    (charged_bits c.args.meter.now c.loop-other.meter c.loop-other.invariant.used.charged)
    (item_has (λ p. IsSystemWithin c.args.meter.now p.system) c.args.others.now c.loop-other.other-index c.other-item.result low
    c.other-item.is c.requires.others_within)

pub pair_pieces-requires-clause-narrow : goal.pair_pieces-requires-clause-narrow
pair_pieces-requires-clause-narrow c =
    let low : c.loop-other.other-index < length c.args.others.now = omega arith in
    item_has (λ q. IsNarrowPair c.args.pairing c.args.piece.now.space q.space) c.args.others.now c.loop-other.other-index
    c.other-item.result low c.other-item.is c.requires.narrow

pub loop-other-preserved : goal.loop-other-preserved
loop-other-preserved c =
    let g = c.args.meter.now in
    let params = c.args.params.now in
    let pairing = c.args.pairing in
    let piece = c.args.piece.now in
    let others = c.args.others.now in
    let i = c.loop-other.other-index in
    let other = c.other-item.result in
    let so_far = c.loop-other.invariant in
    let low : i < length others = omega arith in
    record {
      made = of_more g params (λ v. PairHas pairing (elements_of params piece v))
          (λ v. second_additive pairing (elements_of params piece v)) ⊥ others i other low
          c.other-item.is ⊥
          (λ never. never) c.loop-other.meter so_far.used.charged
          c.loop-other.made.items c.in_ok-pair_pieces.field-0.items c.append.new.pieces.items c.in_ok-append.ensures so_far.made
          c.in_ok-pair_pieces.ensures.made;
      used = partner_pays (are_paired pairing) others other i low c.other-item.is piece.space g c.loop-other.meter c.pair_pieces.new.meter
          so_far.used c.in_ok-pair_pieces.ensures.units;
    }

pub returns-clause-made : goal.returns-clause-made
returns-clause-made c =
    let params = c.args.params.now in
    let pairing = c.args.pairing in
    let piece = c.args.piece.now in
    let others = c.args.others.now in
    let i = c.loop-other.other-index in
    let end : length others ≤ i = omega arith in
    of_all c.args.meter.now params (λ v. PairHas pairing (elements_of params piece v))
    (λ v. second_additive pairing (elements_of params piece v)) ⊥ others i end
    c.loop-other.made.items c.loop-other.invariant.made
