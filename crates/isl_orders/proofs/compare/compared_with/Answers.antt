use Rattle.std.proofs.Common.{refl}
use Rattle.isl_meter.proofs.CutLemmas.{IsCharged_refl, IsCharged_trans}
use Rattle.isl_piece.specs.System.{IsSystemWithin}
use Rattle.isl_piece.proofs.FormedLaws.{system_within_kept}
use Rattle.isl_union.proofs.MeetSteps.{charged_bits, item_has}
use Rattle.isl_images.specs.Made.{elements_of}
use Rattle.isl_images.proofs.MadeLaws.{of_all, of_more, of_none}
use Rattle.isl_orders.specs.Comparison.{IsWide, OrderedHas}
use Rattle.isl_orders.proofs.PairLaws.{second_additive}
use Rattle.isl_orders.proofs.compare.compared_with.Goals as goal

pub loop-other-init : goal.loop-other-init
loop-other-init c =
    let params = c.args.params.now in
    let operands = c.args.comparison.operands in
    let order = c.args.comparison.order in
    let piece = c.args.piece.now in
    record {
      made = of_none c.args.meter.now params (λ v. OrderedHas operands order (elements_of params piece v))
          (λ v. second_additive operands order (elements_of params piece v)) ⊥
          c.new-made.result.items c.new-made.ensures.items;
      charged = IsCharged_refl c.args.meter.now c.args.meter.now refl;
    }

pub compared-requires-clause-own_within : goal.compared-requires-clause-own_within
compared-requires-clause-own_within c =
    system_within_kept c.loop-other.meter c.args.meter.now c.args.piece.now.system
    (charged_bits c.args.meter.now c.loop-other.meter c.loop-other.invariant.charged) c.requires.piece_within

pub compared-requires-clause-other_within : goal.compared-requires-clause-other_within
compared-requires-clause-other_within c =
    system_within_kept c.loop-other.meter c.args.meter.now c.other-item.result.system
    (charged_bits c.args.meter.now c.loop-other.meter c.loop-other.invariant.charged)
    (item_has (λ p. IsSystemWithin c.args.meter.now p.system) c.args.others.now c.loop-other.other-index c.other-item.result
    c.loop-other-test.true c.other-item.is c.requires.others_within)

pub compared-requires-clause-narrow : goal.compared-requires-clause-narrow
compared-requires-clause-narrow c =
    item_has (λ q. ¬ IsWide c.args.comparison.operands c.args.piece.now.space q.space) c.args.others.now c.loop-other.other-index
    c.other-item.result c.loop-other-test.true c.other-item.is c.requires.narrow

pub loop-other-preserved : goal.loop-other-preserved
loop-other-preserved c =
    let g = c.args.meter.now in
    let params = c.args.params.now in
    let operands = c.args.comparison.operands in
    let order = c.args.comparison.order in
    let piece = c.args.piece.now in
    let others = c.args.others.now in
    let i = c.loop-other.other-index in
    let other = c.other-item.result in
    let so_far = c.loop-other.invariant in
    let low = c.loop-other-test.true in
    record {
      made = of_more g params (λ v. OrderedHas operands order (elements_of params piece v))
          (λ v. second_additive operands order (elements_of params piece v)) ⊥ others i other low
          c.other-item.is ⊥
          (λ never. never) c.loop-other.meter so_far.charged
          c.loop-other.made.items c.in_ok-more.more.items c.append.new.pieces.items c.in_ok-append.ensures so_far.made
          c.in_ok-more.ensures.made;
      charged = IsCharged_trans g c.loop-other.meter c.compared.new.meter so_far.charged c.in_ok-more.ensures.meter;
    }

pub returns-clause-made : goal.returns-clause-made
returns-clause-made c =
    let params = c.args.params.now in
    let operands = c.args.comparison.operands in
    let order = c.args.comparison.order in
    let piece = c.args.piece.now in
    let others = c.args.others.now in
    of_all c.args.meter.now params (λ v. OrderedHas operands order (elements_of params piece v))
    (λ v. second_additive operands order (elements_of params piece v)) ⊥ others c.loop-other.other-index
    c.loop-other-test.false c.loop-other.made.items c.loop-other.invariant.made
