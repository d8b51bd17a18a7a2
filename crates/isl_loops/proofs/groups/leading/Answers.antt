use Rattle.std.proofs.Common.{◌≡◌, ◌<◌, ◌∷◌, [], arith, length}
use Rattle.std.proofs.lemmas.Grind.{common_steps}
use Rattle.std.proofs.lemmas.List.Elements.{All-weaker}
use Rattle.std.specs.Global.{Vec}
use Rattle.std.specs.List.{All}
use Rattle.std.specs.Prelude.{IsTrue}
use Rattle.isl_meter.proofs.CutLemmas.{IsCharged_trans}
use Rattle.isl_nest.specs.declared.item.Item.{Item}
use Rattle.isl_loops.specs.Together.{AllComeBefore, IsOver}
use Rattle.isl_loops.proofs.CallLaws.{all_at, all_more, over_charged}
use Rattle.isl_loops.proofs.groups.leading.Goals as goal

pub all_come_before-requires-clause-others : goal.all_come_before-requires-clause-others
all_come_before-requires-clause-others c =
    let g = c.args.meter.now in
    let h = c.loop-count.meter in
    let p = c.args.extent.params in
    let t = c.args.extent.times in
    let O : Vec Item → Type 0 = λ group. All (IsOver g p t) group.items in
    let low : c.loop-count.count < length c.args.groups.now = omega arith in
    let over = all_at O c.args.groups.now c.loop-count.count c.index-groups-count.result low c.index-groups-count.is c.requires.groups in
    let same : c.as_slice.result.now ≡ c.index-groups-count.result.items = grind (arith, common_steps) in
    rw same (All-weaker (IsOver g p t) (IsOver h p t) (λ item o. over_charged g h p t item c.loop-count.invariant.2 o)
    c.index-groups-count.result.items over)

pub all_come_before-requires-clause-item : goal.all_come_before-requires-clause-item
all_come_before-requires-clause-item c =
    over_charged c.args.meter.now c.loop-count.meter c.args.extent.params c.args.extent.times c.args.item.now c.loop-count.invariant.2
    c.requires.item

pub loop-count-preserved : goal.loop-count-preserved
loop-count-preserved c =
    let B : Vec Item → Type 0 = λ group. AllComeBefore c.args.place.now group.items (c.args.item.now ∷ []) in
    let low : c.loop-count.count < length c.args.groups.now = omega arith in
    let sure : IsTrue c.in_ok-all_come_before.field-0 = grind (arith, common_steps) in
    let same : c.as_slice.result.now ≡ c.index-groups-count.result.items = grind (arith, common_steps) in (
      omega (arith, low),
      all_more B c.args.groups.now c.loop-count.count c.index-groups-count.result low c.index-groups-count.is c.loop-count.invariant.1
          (rw same at (c.in_ok-all_come_before.ensures.before sure)),
      IsCharged_trans c.args.meter.now c.loop-count.meter c.all_come_before.new.meter c.loop-count.invariant.2
          c.in_ok-all_come_before.ensures.meter,
    )
