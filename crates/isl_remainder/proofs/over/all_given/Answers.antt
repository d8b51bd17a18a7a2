use Rattle.std.proofs.Common.{◌+◌, refl, sym, subst, arith, ◌<◌, ◌≤◌, length}
use Rattle.std.specs.List.{All}
use Rattle.isl_meter.proofs.CutLemmas.{IsCharged_refl, IsCharged_trans}
use Rattle.isl_remainder.specs.Over.{HoldsGiven, HoldsLong, IsAcross}
use Rattle.isl_remainder.proofs.MadeLaws.{made_all, made_more, made_none}
use Rattle.isl_remainder.proofs.OverLaws.{across_before, across_later, IsPlainSystem}
use Rattle.isl_remainder.proofs.over.all_given.Goals as goal

pub given-requires : goal.given-requires
given-requires c =
    let g = c.args.meter.now in
    let h = c.loop-other.meter in
    let n = c.args.columns + 1 in
    let low : c.loop-other.other-index < length c.args.others.now = omega arith in
    record {
      other = across_later g h n c.other-item.result c.loop-other.invariant.charged (subst (IsAcross g n) (sym c.other-item.is)
          (c.requires.others c.loop-other.other-index c.other-item.result low));
      one = across_later g h n c.args.one.now c.loop-other.invariant.charged c.requires.one;
    }

pub loop-other-init : goal.loop-other-init
loop-other-init c =
    let one = c.args.one.now in
    let n = c.args.columns in
    let items = c.args.others.now in
    record {
      made = made_none (HoldsLong n) (IsAcross c.args.meter.now n) IsPlainSystem (IsPlainSystem one × All IsPlainSystem items)
          (λ point s. HoldsGiven one n point s) items c.new-made.result.items c.new-made.ensures.items;
      charged = IsCharged_refl c.args.meter.now c.args.meter.now refl;
    }

pub loop-other-preserved : goal.loop-other-preserved
loop-other-preserved c =
    let g = c.args.meter.now in
    let h = c.loop-other.meter in
    let one = c.args.one.now in
    let n = c.args.columns in
    let items = c.args.others.now in
    let i = c.loop-other.other-index in
    let item = c.other-item.result in
    let so_far = c.loop-other.invariant in
    let low : i < length items = omega arith in
    record {
      made = made_more (HoldsLong n) (IsAcross g n) IsPlainSystem (IsPlainSystem one × All IsPlainSystem items)
          (λ point s. HoldsGiven one n point s) items i item low c.other-item.is (IsAcross h n) (IsPlainSystem one × IsPlainSystem item)
          (λ point. HoldsGiven one n point item) (λ s is. across_before g h n s so_far.charged is)
          (λ all. (all.0, subst IsPlainSystem (sym c.other-item.is) (all.1 i item low))) (λ point. ((λ x. x), (λ x. x)))
          c.loop-other.made.items c.in_ok-more.more.items c.append.new.systems.items c.in_ok-append.ensures.items so_far.made
          c.in_ok-more.ensures.made;
      charged = IsCharged_trans g h c.given.new.meter so_far.charged c.in_ok-more.ensures.meter;
    }

pub returns-clause-made : goal.returns-clause-made
returns-clause-made c =
    let one = c.args.one.now in
    let n = c.args.columns in
    let items = c.args.others.now in
    let end : length items ≤ c.loop-other.other-index = omega arith in
    made_all (HoldsLong n) (IsAcross c.args.meter.now n) IsPlainSystem (IsPlainSystem one × All IsPlainSystem items)
    (λ point s. HoldsGiven one n point s) items c.loop-other.other-index end c.loop-other.made.items c.loop-other.invariant.made
