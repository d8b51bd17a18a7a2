use Rattle.std.proofs.Common.{◌<◌, ◌≤◌, ◌+◌, arith, length}
use Rattle.std.proofs.lemmas.Grind.{common_steps}
use Rattle.std.specs.Prelude.{IsTrue}
use Rattle.isl_meter.proofs.CutLemmas.{IsCharged_trans}
use Rattle.isl_frame.specs.Needed.{AreRowsOver}
use Rattle.isl_frame.proofs.NeededLaws.{over_later}
use Rattle.isl_loops.specs.Order.{SystemsPrecede}
use Rattle.isl_loops.proofs.CallLaws.{all_at, all_done, all_more}
use Rattle.isl_loops.proofs.order.precedes_all.Goals as goal

pub systems_precede-requires-clause-other : goal.systems_precede-requires-clause-other
systems_precede-requires-clause-other c =
    let columns = length c.args.place.now.frame + 1 in
    let low : c.loop-other.other-index < length c.args.others.now = omega arith in
    over_later c.args.meter.now c.loop-other.meter columns c.other-item.result c.loop-other.invariant.1
    (all_at (AreRowsOver c.args.meter.now columns) c.args.others.now c.loop-other.other-index c.other-item.result low c.other-item.is
    c.requires.others)

pub loop-other-preserved : goal.loop-other-preserved
loop-other-preserved c =
    let low : c.loop-other.other-index < length c.args.others.now = omega arith in
    let sure : IsTrue c.in_ok-systems_precede.field-0 = grind (arith, common_steps) in (
      all_more (SystemsPrecede c.args.place.now c.args.one.now) c.args.others.now c.loop-other.other-index c.other-item.result low
          c.other-item.is c.loop-other.invariant.0 (c.in_ok-systems_precede.ensures.precede sure),
      IsCharged_trans c.args.meter.now c.loop-other.meter c.systems_precede.new.meter c.loop-other.invariant.1
          c.in_ok-systems_precede.ensures.meter,
    )

pub returns-clause-precede : goal.returns-clause-precede
returns-clause-precede c sure =
    let end : length c.args.others.now ≤ c.loop-other.other-index = omega arith in
    all_done (SystemsPrecede c.args.place.now c.args.one.now) c.args.others.now c.loop-other.other-index end c.loop-other.invariant.0
