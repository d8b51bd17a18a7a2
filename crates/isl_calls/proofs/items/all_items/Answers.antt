use Rattle.std.proofs.Common.{◌≡◌, ◌<◌, ◌≤◌, ◌++◌, ◌∷◌, [], arith, length}
use Rattle.std.proofs.lemmas.Grind.{common_steps}
use Rattle.isl_meter.specs.Gauge.{IsCharged}
use Rattle.isl_meter.proofs.CutLemmas.{IsCharged_trans}
use Rattle.isl_calls.proofs.ZipLaws.{zip_all, zip_more}
use Rattle.isl_calls.specs.Items.{IsItemOf}
use Rattle.isl_calls.proofs.ItemsLaws.{calls_at, item_kept}
use Rattle.isl_calls.proofs.items.all_items.Goals as goal

pub item_of-requires : goal.item_of-requires
item_of-requires c =
    let calls = c.args.calls.now in
    let i = c.loop-one.one-index in
    let low : i < length calls = grind (arith, common_steps) in
    calls_at c.args.meter.now c.loop-one.meter c.args.params calls i c.one-item.result low c.one-item.is c.loop-one.invariant.1 c.requires

pub loop-one-preserved : goal.loop-one-preserved
loop-one-preserved c =
    let g = c.args.meter.now in
    let h = c.loop-one.meter in
    let k = c.item_of.new.meter in
    let params = c.args.params in
    let calls = c.args.calls.now in
    let i = c.loop-one.one-index in
    let one = c.one-item.result in
    let item = c.in_ok-item_of.field-0 in
    let low : i < length calls = grind (arith, common_steps) in
    let charged : IsCharged h k = grind arith in
    let pushed : c.push.new.self.items ≡ c.loop-one.items.items ++ item ∷ [] = grind arith in (
      zip_more (IsItemOf g params) calls i one c.loop-one.items.items c.push.new.self.items item low c.one-item.is c.loop-one.invariant.0
          (item_kept g h params one item c.loop-one.invariant.1 c.in_ok-item_of.ensures.item) pushed,
      IsCharged_trans g h k c.loop-one.invariant.1 charged,
    )

pub returns-clause-items : goal.returns-clause-items
returns-clause-items c =
    let end : length c.args.calls.now ≤ c.loop-one.one-index = grind (arith, common_steps) in
    zip_all (IsItemOf c.args.meter.now c.args.params) c.args.calls.now c.loop-one.one-index c.loop-one.items.items end
    c.loop-one.invariant.0
