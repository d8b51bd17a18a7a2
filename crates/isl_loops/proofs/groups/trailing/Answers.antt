use Rattle.std.proofs.Common.{◌≡◌, ◌-◌, ◌<◌, ◌≤◌, arith, length}
use Rattle.std.proofs.lemmas.Grind.{common_steps}
use Rattle.std.proofs.lemmas.List.Elements.{All-weaker}
use Rattle.std.specs.Global.{Vec}
use Rattle.std.specs.List.{All}
use Rattle.std.specs.Prelude.{IsTrue}
use Rattle.isl_meter.proofs.CutLemmas.{IsCharged_trans}
use Rattle.isl_nest.specs.declared.item.Item.{Item}
use Rattle.isl_loops.specs.Together.{ComesBefore, IsOver}
use Rattle.isl_loops.proofs.CallLaws.{all_at, over_charged}
use Rattle.isl_loops.proofs.GroupLists.{all_back}
use Rattle.isl_loops.proofs.groups.trailing.Goals as goal

pub comes_before_all-requires-clause-item : goal.comes_before_all-requires-clause-item
comes_before_all-requires-clause-item c =
    over_charged c.args.meter.now c.loop-from.meter c.args.extent.params c.args.extent.times c.args.item.now c.loop-from.invariant.3
    c.requires.item

pub comes_before_all-requires-clause-others : goal.comes_before_all-requires-clause-others
comes_before_all-requires-clause-others c =
    let g = c.args.meter.now in
    let h = c.loop-from.meter in
    let p = c.args.extent.params in
    let t = c.args.extent.times in
    let O : Vec Item → Type 0 = λ group. All (IsOver g p t) group.items in
    let low : c.loop-from.from - 1 < length c.args.groups.now = omega arith in
    let over = all_at O c.args.groups.now (c.loop-from.from - 1) c.index-groups-from.result low c.index-groups-from.is c.requires.groups in
    let same : c.as_slice.result.now ≡ c.index-groups-from.result.items = grind (arith, common_steps) in
    rw same (All-weaker (IsOver g p t) (IsOver h p t) (λ item o. over_charged g h p t item c.loop-from.invariant.3 o)
    c.index-groups-from.result.items over)

pub loop-from-preserved : goal.loop-from-preserved
loop-from-preserved c =
    let B : Vec Item → Type 0 = λ group. All (ComesBefore c.args.place.now c.args.item.now) group.items in
    let some : 0 < c.loop-from.from = omega arith in
    let low : c.loop-from.from ≤ length c.args.groups.now = c.loop-from.invariant.1 in
    let sure : IsTrue c.in_ok-comes_before_all.field-0 = grind (arith, common_steps) in
    let same : c.as_slice.result.now ≡ c.index-groups-from.result.items = grind (arith, common_steps) in (
      omega arith,
      omega (arith, low),
      all_back B c.args.groups.now c.loop-from.from c.index-groups-from.result some low c.index-groups-from.is
          (rw same at (c.in_ok-comes_before_all.ensures.before sure)) c.loop-from.invariant.2,
      IsCharged_trans c.args.meter.now c.loop-from.meter c.comes_before_all.new.meter c.loop-from.invariant.3
          c.in_ok-comes_before_all.ensures.meter,
    )
