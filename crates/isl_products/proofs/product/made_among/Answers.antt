use Rattle.std.proofs.Common.{◌≡◌, [], arith, ◌<◌, ◌≤◌, length}
use Rattle.isl_piece.specs.Piece.{PieceView}
use Rattle.isl_piece.specs.System.{IsSystemWithin}
use Rattle.isl_piece.proofs.FormedLaws.{system_within_kept}
use Rattle.isl_union.specs.Piece.{kept_piece}
use Rattle.isl_union.proofs.MeetSteps.{charged_bits, item_has}
use Rattle.isl_union.proofs.PiecesLaws.{plain_more}
use Rattle.isl_relation.proofs.TogetherLaws.{partner_pays}
use Rattle.isl_products.specs.Layout.{IsWide, are_together}
use Rattle.isl_products.specs.Made.{IsMadeOf}
use Rattle.isl_products.proofs.PairLaws.{made_at_end, made_next}
use Rattle.isl_products.proofs.WideLaws.{not_next}
use Rattle.isl_products.proofs.product.made_among.Goals as goal

pub made_of-requires-clause-own_within : goal.made_of-requires-clause-own_within
made_of-requires-clause-own_within c =
    system_within_kept c.loop-other.meter c.args.meter.now c.args.piece.now.system
    (charged_bits c.args.meter.now c.loop-other.meter c.loop-other.invariant.used.charged) c.requires.piece_within

pub made_of-requires-clause-other_within : goal.made_of-requires-clause-other_within
made_of-requires-clause-other_within c =
    let low : c.loop-other.other-index < length c.args.others.now = omega arith in
    system_within_kept c.loop-other.meter c.args.meter.now c.other-item.result.system
    (charged_bits c.args.meter.now c.loop-other.meter c.loop-other.invariant.used.charged)
    (item_has (λ p. IsSystemWithin c.args.meter.now p.system) c.args.others.now c.loop-other.other-index c.other-item.result low
    c.other-item.is c.requires.others_within)

pub made_of-requires-clause-narrow : goal.made_of-requires-clause-narrow
made_of-requires-clause-narrow c =
    let low : c.loop-other.other-index < length c.args.others.now = omega arith in
    not_next (λ b. IsWide c.args.product c.args.piece.now.space b.space) c.args.others.now c.loop-other.other-index c.other-item.result low
    c.other-item.is c.requires.narrow

pub loop-other-preserved : goal.loop-other-preserved
loop-other-preserved c =
    let params = c.args.params.now in
    let others = c.args.others.now in
    let i = c.loop-other.other-index in
    let other = c.other-item.result in
    let g = c.args.meter.now in
    let h = c.loop-other.meter in
    let low : i < length others = omega arith in
    let so_far = c.loop-other.invariant in
    let one = c.in_ok-made_of.ensures in
    record {
      made = made_next g h params (λ v e b. IsMadeOf c.args.product params v e (kept_piece c.args.piece.now) b) others other i
          c.loop-other.made.items c.in_ok-made_of.field-0.items c.append.new.pieces.items so_far.used.charged low c.other-item.is
          so_far.made
          c.in_ok-append.ensures one.elements one.sound one.numbers;
      definitions = λ own all.
          let P : PieceView → Type 0 = λ p. p.system.definitions ≡ [] in
          let here = item_has P others i other low c.other-item.is all in
          plain_more c.loop-other.made.items c.in_ok-made_of.field-0.items c.append.new.pieces.items c.in_ok-append.ensures
          (so_far.definitions own all) (one.definitions own here);
      used = partner_pays (are_together c.args.product) others other i low c.other-item.is c.args.piece.now.space g h c.made_of.new.meter
          so_far.used one.units;
    }

pub returns-clause-elements : goal.returns-clause-elements
returns-clause-elements c v e =
    let end : length c.args.others.now ≤ c.loop-other.other-index = omega arith in
    (made_at_end c.args.meter.now c.args.params.now
    (λ v e b. IsMadeOf c.args.product c.args.params.now v e (kept_piece c.args.piece.now) b) c.args.others.now c.loop-other.made.items
    c.loop-other.other-index end c.loop-other.invariant.made).elements v e
