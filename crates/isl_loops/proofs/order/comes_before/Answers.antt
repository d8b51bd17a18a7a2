use Rattle.std.proofs.Common.{◌≡◌, ◌<◌, ◌≤◌, ◌+◌, ◌-◌, [], arith, length, get_or}
use Rattle.std.proofs.lemmas.Grind.{common_steps}
use Rattle.std.specs.List.{All}
use Rattle.std.specs.Prelude.{IsTrue}
use Rattle.isl_meter.proofs.CutLemmas.{IsCharged_trans}
use Rattle.isl_bounds.proofs.PrunedLaws.{groups_later}
use Rattle.isl_frame.specs.Needed.{AreRowsOver}
use Rattle.isl_frame.proofs.NeededLaws.{over_later}
use Rattle.isl_loops.specs.Order.{SystemsPrecede}
use Rattle.isl_loops.proofs.CallLaws.{all_at, all_done, all_more, cover_over}
use Rattle.isl_loops.proofs.OrderLaws.{covers_precede}
use Rattle.isl_loops.proofs.order.comes_before.Goals as goal

pub precedes_all-requires-clause-one : goal.precedes_all-requires-clause-one
precedes_all-requires-clause-one c =
    let g = c.args.meter.now in
    let frame = c.args.place.now.frame in
    let one = c.args.one.now in
    let systems = c.as_slice-system-items.result.now in
    let read : systems ≡ get_or one.covers.items (length frame + 1 - c.args.extent.params) [] = grind (arith, common_steps) in
    let cover = cover_over g c.args.extent.params c.args.extent.times one c.requires.one (length frame) c.requires.low c.requires.inner
    systems read in
    let low : c.loop-system.system-index < length systems = omega arith in
    over_later g c.loop-system.meter (length frame + 1) c.system-item.result c.loop-system.invariant.1
    (all_at (AreRowsOver g (length frame + 1)) systems c.loop-system.system-index c.system-item.result low c.system-item.is cover.over)

pub precedes_all-requires-clause-others : goal.precedes_all-requires-clause-others
precedes_all-requires-clause-others c =
    let g = c.args.meter.now in
    let frame = c.args.place.now.frame in
    let other = c.args.other.now in
    let systems = c.as_slice-others.result.now in
    let read : systems ≡ get_or other.covers.items (length frame + 1 - c.args.extent.params) [] = grind (arith, common_steps) in
    let cover = cover_over g c.args.extent.params c.args.extent.times other c.requires.other (length frame) c.requires.low c.requires.inner
    systems read in
    groups_later g c.loop-system.meter (length frame + 1) systems c.loop-system.invariant.1 cover.over

pub loop-system-preserved : goal.loop-system-preserved
loop-system-preserved c =
    let systems = c.as_slice-system-items.result.now in
    let others = c.as_slice-others.result.now in
    let low : c.loop-system.system-index < length systems = omega arith in
    let sure : IsTrue c.in_ok-precedes_all.field-0 = grind (arith, common_steps) in (
      all_more (λ s. All (SystemsPrecede c.args.place.now s) others) systems c.loop-system.system-index c.system-item.result low
          c.system-item.is c.loop-system.invariant.0 (c.in_ok-precedes_all.ensures.precede sure),
      IsCharged_trans c.args.meter.now c.loop-system.meter c.precedes_all.new.meter c.loop-system.invariant.1
          c.in_ok-precedes_all.ensures.meter,
    )

pub returns-clause-before : goal.returns-clause-before
returns-clause-before c sure =
    let g = c.args.meter.now in
    let place = c.args.place.now in
    let frame = place.frame in
    let one = c.args.one.now in
    let other = c.args.other.now in
    let firsts = c.as_slice-system-items.result.now in
    let seconds = c.as_slice-others.result.now in
    let level = length frame + 1 - c.args.extent.params in
    let read : firsts ≡ get_or one.covers.items level [] = grind (arith, common_steps) in
    let again : seconds ≡ get_or other.covers.items level [] = grind (arith, common_steps) in
    let end : length firsts ≤ c.loop-system.system-index = omega arith in
    covers_precede g place one other firsts seconds
    (cover_over g c.args.extent.params c.args.extent.times one c.requires.one (length frame) c.requires.low c.requires.inner firsts read)
    (cover_over g c.args.extent.params c.args.extent.times other c.requires.other (length frame) c.requires.low c.requires.inner
    seconds again)
    (all_done (λ s. All (SystemsPrecede place s) seconds) firsts c.loop-system.system-index end c.loop-system.invariant.0)
