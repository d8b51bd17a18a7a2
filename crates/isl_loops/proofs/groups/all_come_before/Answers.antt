use Rattle.std.proofs.Common.{◌<◌, ◌≤◌, ◌∷◌, [], arith, length}
use Rattle.std.proofs.lemmas.Grind.{common_steps}
use Rattle.std.proofs.lemmas.List.Elements.{All-cons, All-nil}
use Rattle.std.specs.List.{All}
use Rattle.std.specs.Prelude.{IsTrue}
use Rattle.isl_meter.proofs.CutLemmas.{IsCharged_trans}
use Rattle.isl_nest.specs.declared.item.Item.{Item}
use Rattle.isl_loops.specs.Together.{ComesBefore, IsOver}
use Rattle.isl_loops.proofs.CallLaws.{all_at, all_done, all_more, over_charged}
use Rattle.isl_loops.proofs.groups.all_come_before.Goals as goal

pub comes_before-requires-clause-one : goal.comes_before-requires-clause-one
comes_before-requires-clause-one c =
    let low : c.loop-other.other-index < length c.args.others.now = omega arith in
    over_charged c.args.meter.now c.loop-other.meter c.args.extent.params c.args.extent.times c.other-item.result c.loop-other.invariant.1
    (all_at (IsOver c.args.meter.now c.args.extent.params c.args.extent.times) c.args.others.now c.loop-other.other-index
    c.other-item.result low c.other-item.is c.requires.others)

pub comes_before-requires-clause-other : goal.comes_before-requires-clause-other
comes_before-requires-clause-other c =
    over_charged c.args.meter.now c.loop-other.meter c.args.extent.params c.args.extent.times c.args.item.now c.loop-other.invariant.1
    c.requires.item

pub loop-other-preserved : goal.loop-other-preserved
loop-other-preserved c =
    let P : Item → Type 0 = λ a. All (ComesBefore c.args.place.now a) (c.args.item.now ∷ []) in
    let low : c.loop-other.other-index < length c.args.others.now = omega arith in
    let sure : IsTrue c.in_ok-comes_before.field-0 = grind (arith, common_steps) in (
      all_more P c.args.others.now c.loop-other.other-index c.other-item.result low c.other-item.is c.loop-other.invariant.0
          (All-cons (ComesBefore c.args.place.now c.other-item.result) c.args.item.now [] (c.in_ok-comes_before.ensures.before sure)
          (All-nil (ComesBefore c.args.place.now c.other-item.result))),
      IsCharged_trans c.args.meter.now c.loop-other.meter c.comes_before.new.meter c.loop-other.invariant.1
          c.in_ok-comes_before.ensures.meter,
    )

pub returns-clause-before : goal.returns-clause-before
returns-clause-before c sure =
    let P : Item → Type 0 = λ a. All (ComesBefore c.args.place.now a) (c.args.item.now ∷ []) in
    let end : length c.args.others.now ≤ c.loop-other.other-index = omega arith in
    all_done P c.args.others.now c.loop-other.other-index end c.loop-other.invariant.0
