use Rattle.std.proofs.Common.{refl, arith, ◌<◌, ◌≤◌, length}
use Rattle.isl_meter.proofs.CutLemmas.{IsCharged_refl, IsCharged_trans}
use Rattle.isl_piece.specs.System.{IsSystemWithin}
use Rattle.isl_piece.proofs.FormedLaws.{system_within_kept}
use Rattle.isl_union.proofs.MeetSteps.{charged_bits, item_has}
use Rattle.isl_images.specs.Image.{ImageHas}
use Rattle.isl_images.proofs.ImageLaws.{image_additive}
use Rattle.isl_images.proofs.MadeLaws.{of_all, of_more, of_none}
use Rattle.isl_images.proofs.image.piece_images.Goals as goal

pub piece_image-requires-clause-within : goal.piece_image-requires-clause-within
piece_image-requires-clause-within c =
    let low : c.loop-piece.piece-index < length c.args.pieces.now = omega arith in
    system_within_kept c.loop-piece.meter c.args.meter.now c.piece-item.result.system
    (charged_bits c.args.meter.now c.loop-piece.meter c.loop-piece.invariant.charged)
    (item_has (λ p. IsSystemWithin c.args.meter.now p.system) c.args.pieces.now c.loop-piece.piece-index c.piece-item.result low
    c.piece-item.is c.requires.within)

pub loop-piece-init : goal.loop-piece-init
loop-piece-init c = record {
  made = of_none c.args.meter.now c.args.params.now (λ v. ImageHas c.args.image) (λ v. image_additive c.args.image)
      ⊥ c.new-made.result.items c.new-made.ensures.items;
  charged = IsCharged_refl c.args.meter.now c.args.meter.now refl;
}

pub loop-piece-preserved : goal.loop-piece-preserved
loop-piece-preserved c =
    let g = c.args.meter.now in
    let pieces = c.args.pieces.now in
    let image = c.args.image in
    let i = c.loop-piece.piece-index in
    let piece = c.piece-item.result in
    let so_far = c.loop-piece.invariant in
    let low : i < length pieces = omega arith in
    record {
      made = of_more g c.args.params.now (λ v. ImageHas image) (λ v. image_additive image) ⊥ pieces i piece low
          c.piece-item.is ⊥ (λ never. never) c.loop-piece.meter
          so_far.charged c.loop-piece.made.items c.in_ok-piece_image.field-0.items c.append.new.pieces.items c.in_ok-append.ensures
          so_far.made c.in_ok-piece_image.ensures.made;
      charged = IsCharged_trans g c.loop-piece.meter c.piece_image.new.meter so_far.charged c.in_ok-piece_image.ensures.meter;
    }

pub returns-clause-made : goal.returns-clause-made
returns-clause-made c =
    let g = c.args.meter.now in
    let pieces = c.args.pieces.now in
    let image = c.args.image in
    let i = c.loop-piece.piece-index in
    let end : length pieces ≤ i = omega arith in
    of_all g c.args.params.now (λ v. ImageHas image) (λ v. image_additive image) ⊥ pieces i end c.loop-piece.made.items
    c.loop-piece.invariant.made
