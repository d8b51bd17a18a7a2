use Rattle.std.proofs.Common.{◌+◌, ◌-◌, ◌<◌, ◌≤◌, refl, sym, subst, arith, length, List}
use Rattle.std.proofs.lemmas.List.{take_all}
use Rattle.std.proofs.lemmas.List.Elements.{All-nil}
use Rattle.isl_meter.proofs.CutLemmas.{IsCharged_refl, IsCharged_trans}
use Rattle.isl_loop.specs.declared.tree.Loop.{Block}
use Rattle.isl_loop.specs.Formed.{IsLoopOver}
use Rattle.isl_loop.specs.Printable.{IsPrintable}
use Rattle.isl_loop.proofs.LimitLaws.{IsLoopOver-same}
use Rattle.isl_loop.proofs.PrintLaws.{printable_of-Block}
use Rattle.isl_nest.specs.declared.item.Item.{Item}
use Rattle.isl_nest.specs.Changing.{AsksWhatChanges}
use Rattle.isl_nest.specs.Covered.{view_of}
use Rattle.isl_nest.specs.Separate.{IsSeparate}
use Rattle.isl_nest.proofs.AroundLaws.{charged_bits}
use Rattle.isl_nest.proofs.ChangingLaws.{changing_of-Block}
use Rattle.isl_nest.proofs.PlaceLaws.{place_later}
use Rattle.isl_loops.specs.Together.{IsOver}
use Rattle.isl_loops.proofs.AloneLaws.{alone_more, alone_none, IsAloneOf}
use Rattle.isl_loops.proofs.CallLaws.{all_at, over_charged}
use Rattle.isl_loops.proofs.PartsLaws.{block_none, block_over, lists_done, lists_nothing, lists_one_more, parts_all, parts_over}
use Rattle.isl_loops.proofs.together.one_by_one.Goals as goal

pub loop-item-init : goal.loop-item-init
loop-item-init c = (
  lists_nothing c.args.place.now (Block c.new-parts.result) (block_none c.new-parts.result c.new-parts.ensures),
  rw c.new-parts.ensures (All-nil (IsLoopOver c.args.meter.now c.args.place.now.variables)),
  IsCharged_refl c.args.meter.now c.args.meter.now refl,
  alone_none c.args.place.now c.new-parts.result c.new-parts.ensures,
  rw c.new-parts.ensures (All-nil (AsksWhatChanges c.args.place.now.variables)),
  rw c.new-parts.ensures (All-nil (IsPrintable c.args.place.now.variables)),
)

pub separate-requires-clause-item : goal.separate-requires-clause-item
separate-requires-clause-item c =
    let g = c.args.meter.now in
    let extent = c.args.extent in
    let items = c.args.items.now in
    let low : c.loop-item.item-index < length items = omega arith in
    (over_charged g c.loop-item.meter extent.params extent.times c.item-item.result c.loop-item.invariant.2
    (all_at (IsOver g extent.params extent.times) items c.loop-item.item-index c.item-item.result low c.item-item.is
    c.requires.items)).covered

pub separate-requires-clause-place : goal.separate-requires-clause-place
separate-requires-clause-place c =
    place_later c.args.meter.now c.loop-item.meter c.args.place.now c.loop-item.invariant.2 c.requires.place

pub separate-requires-clause-whole : goal.separate-requires-clause-whole
separate-requires-clause-whole c =
    let extent = c.args.extent in
    let items = c.args.items.now in
    let low : c.loop-item.item-index < length items = omega arith in
    let is = all_at (IsOver c.args.meter.now extent.params extent.times) items c.loop-item.item-index c.item-item.result low c.item-item.is
    c.requires.items in
    let p = is.params_are in
    let t = is.times_are in
    let h = is.covered.is.times in
    let high = c.requires.high in
    let long = c.len-columns.ensures in
    omega (arith, p, t, h, high, long)

pub separate-requires-clause-low : goal.separate-requires-clause-low
separate-requires-clause-low c =
    let extent = c.args.extent in
    let items = c.args.items.now in
    let low : c.loop-item.item-index < length items = omega arith in
    let is = all_at (IsOver c.args.meter.now extent.params extent.times) items c.loop-item.item-index c.item-item.result low c.item-item.is
    c.requires.items in
    let p = is.params_are in
    let first = c.requires.low in
    omega (arith, p, first)

pub overflow_add-left : goal.overflow_add-left
overflow_add-left c =
    let extent = c.args.extent in
    let items = c.args.items.now in
    let low : c.loop-item.item-index < length items = omega arith in
    let is = all_at (IsOver c.args.meter.now extent.params extent.times) items c.loop-item.item-index c.item-item.result low c.item-item.is
    c.requires.items in
    let n = is.covered.narrow in
    omega (arith, n)

pub overflow_sub-left : goal.overflow_sub-left
overflow_sub-left c =
    let extent = c.args.extent in
    let items = c.args.items.now in
    let low : c.loop-item.item-index < length items = omega arith in
    let is = all_at (IsOver c.args.meter.now extent.params extent.times) items c.loop-item.item-index c.item-item.result low c.item-item.is
    c.requires.items in
    let p = is.params_are in
    let t = is.times_are in
    let h = is.covered.is.times in
    let high = c.requires.high in
    let long = c.len-columns.ensures in
    omega (arith, p, t, h, high, long)

pub loop-item-preserved : goal.loop-item-preserved
loop-item-preserved c =
    let g = c.args.meter.now in
    let h = c.loop-item.meter in
    let place = c.args.place.now in
    let extent = c.args.extent in
    let items = c.args.items.now in
    let i = c.loop-item.item-index in
    let item = c.item-item.result in
    let parts = c.loop-item.parts in
    let made = c.push.new.self in
    let tree = c.in_ok-separate.field-0 in
    let low : i < length items = omega arith in
    let named = (all_at (IsOver g extent.params extent.times) items i item low c.item-item.is c.requires.items).named in
    let same = charged_bits g h c.loop-item.invariant.2 in (
      lists_one_more place g extent.params extent.times items c.requires.items c.requires.apart c.requires.outer i item low c.item-item.is
          parts made tree c.in_ok-push.ensures.ok c.loop-item.invariant.0 c.in_ok-separate.ensures.lists,
      parts_over g place.variables parts tree made c.in_ok-push.ensures.ok c.loop-item.invariant.1
          (IsLoopOver-same h g place.variables tree (sym same) c.in_ok-separate.ensures.over),
      IsCharged_trans g h c.separate.new.meter c.loop-item.invariant.2 c.in_ok-separate.ensures.meter,
      alone_more place items i item low c.item-item.is parts made tree c.in_ok-push.ensures.ok c.loop-item.invariant.3
          (subst (λ n. IsSeparate (view_of item) (item.params + item.levels - n) place tree) c.len-columns.ensures
          c.in_ok-separate.ensures.separate),
      parts_all (AsksWhatChanges place.variables) parts tree made c.in_ok-push.ensures.ok c.loop-item.invariant.4
          c.in_ok-separate.ensures.changing,
      parts_all (IsPrintable place.variables) parts tree made c.in_ok-push.ensures.ok c.loop-item.invariant.5
          (c.in_ok-separate.ensures.printable named),
    )

pub returns-clause-lists : goal.returns-clause-lists
returns-clause-lists c =
    let end : length c.args.items.now ≤ c.loop-item.item-index = omega arith in
    lists_done c.args.place.now c.args.items.now c.loop-item.item-index (Block c.loop-item.parts) end c.loop-item.invariant.0

pub returns-clause-alone : goal.returns-clause-alone
returns-clause-alone c item only =
    let end : length c.args.items.now ≤ c.loop-item.item-index = omega arith in
    (subst (λ (xs : List Item). IsAloneOf c.args.place.now xs c.loop-item.parts) (take_all c.loop-item.item-index c.args.items.now end)
    c.loop-item.invariant.3).separate item only

pub returns-clause-over : goal.returns-clause-over
returns-clause-over c = block_over c.args.meter.now c.args.place.now.variables c.loop-item.parts c.loop-item.invariant.1

pub returns-clause-changing : goal.returns-clause-changing
returns-clause-changing c = changing_of-Block c.args.place.now.variables c.loop-item.parts c.loop-item.invariant.4

pub returns-clause-printable : goal.returns-clause-printable
returns-clause-printable c = printable_of-Block c.args.place.now.variables c.loop-item.parts c.loop-item.invariant.5
