use Rattle.std.proofs.Common.{refl}
use Rattle.std.specs.List.{All}
use Rattle.isl_meter.proofs.CutLemmas.{IsCharged_refl, IsCharged_trans}
use Rattle.isl_piece.specs.System.{IsSystemWithin}
use Rattle.isl_piece.proofs.FormedLaws.{system_within_kept}
use Rattle.isl_union.proofs.MeetSteps.{charged_bits, item_has, pieces_later}
use Rattle.isl_images.specs.Made.{elements_of_all}
use Rattle.isl_images.proofs.MadeLaws.{of_all, of_more, of_none}
use Rattle.isl_orders.specs.Comparison.{IsWide, OrderedHas}
use Rattle.isl_orders.proofs.PairLaws.{first_additive}
use Rattle.isl_orders.proofs.compare.all_compared.Goals as goal

pub loop-piece-init : goal.loop-piece-init
loop-piece-init c =
    let params = c.args.params.now in
    let operands = c.args.comparison.operands in
    let order = c.args.comparison.order in
    let others = c.args.others.now in
    record {
      made = of_none c.args.meter.now params (λ v M. OrderedHas operands order M (elements_of_all params others v))
          (λ v. first_additive operands order (elements_of_all params others v)) ⊥
          c.new-made.result.items c.new-made.ensures.items;
      charged = IsCharged_refl c.args.meter.now c.args.meter.now refl;
    }

pub compared_with-requires-clause-piece_within : goal.compared_with-requires-clause-piece_within
compared_with-requires-clause-piece_within c =
    system_within_kept c.loop-piece.meter c.args.meter.now c.piece-item.result.system
    (charged_bits c.args.meter.now c.loop-piece.meter c.loop-piece.invariant.charged)
    (item_has (λ p. IsSystemWithin c.args.meter.now p.system) c.args.pieces.now c.loop-piece.piece-index c.piece-item.result
    c.loop-piece-test.true c.piece-item.is c.requires.pieces_within)

pub compared_with-requires-clause-others_within : goal.compared_with-requires-clause-others_within
compared_with-requires-clause-others_within c =
    pieces_later c.args.meter.now c.loop-piece.meter c.args.others.now c.loop-piece.invariant.charged c.requires.others_within

pub compared_with-requires-clause-narrow : goal.compared_with-requires-clause-narrow
compared_with-requires-clause-narrow c =
    item_has (λ p. All (λ q. ¬ IsWide c.args.comparison.operands p.space q.space) c.args.others.now) c.args.pieces.now
    c.loop-piece.piece-index c.piece-item.result c.loop-piece-test.true c.piece-item.is c.requires.narrow

pub loop-piece-preserved : goal.loop-piece-preserved
loop-piece-preserved c =
    let g = c.args.meter.now in
    let params = c.args.params.now in
    let operands = c.args.comparison.operands in
    let order = c.args.comparison.order in
    let pieces = c.args.pieces.now in
    let others = c.args.others.now in
    let i = c.loop-piece.piece-index in
    let piece = c.piece-item.result in
    let so_far = c.loop-piece.invariant in
    let low = c.loop-piece-test.true in
    record {
      made = of_more g params (λ v M. OrderedHas operands order M (elements_of_all params others v))
          (λ v. first_additive operands order (elements_of_all params others v)) ⊥ pieces i piece
          low
          c.piece-item.is ⊥
          (λ never. never) c.loop-piece.meter so_far.charged
          c.loop-piece.made.items c.in_ok-more.more.items c.append.new.pieces.items c.in_ok-append.ensures so_far.made
          c.in_ok-more.ensures.made;
      charged = IsCharged_trans g c.loop-piece.meter c.compared_with.new.meter so_far.charged c.in_ok-more.ensures.meter;
    }

pub returns-clause-made : goal.returns-clause-made
returns-clause-made c =
    let params = c.args.params.now in
    let operands = c.args.comparison.operands in
    let order = c.args.comparison.order in
    let pieces = c.args.pieces.now in
    let others = c.args.others.now in
    of_all c.args.meter.now params (λ v M. OrderedHas operands order M (elements_of_all params others v))
    (λ v. first_additive operands order (elements_of_all params others v)) ⊥ pieces
    c.loop-piece.piece-index c.loop-piece-test.false c.loop-piece.made.items c.loop-piece.invariant.made
