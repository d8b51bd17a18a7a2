use Rattle.std.proofs.Common.{◌+◌, sym}
use Rattle.std.proofs.lemmas.Result.{IfOk-weaker}
use Rattle.isl_blocks.proofs.ResultLaws.{ok_case}
use Rattle.isl_extremes.specs.Systems.{AreOutside, AreStanding, IsDecided}
use Rattle.isl_extremes.proofs.SystemsLaws.{charged_bits, decided_from, outside_kept, plain_kept, standing_more}
use Rattle.isl_extremes.proofs.systems.unbeaten.Goals as goal

pub all_outside-requires : goal.all_outside-requires
all_outside-requires c =
    let g = c.args.meter.now in
    let h = c.all_beaten.new.meter in
    let n = c.args.order.front + c.args.order.width in
    let e = sym (charged_bits g h c.in_ok-beaten.ensures.meter) in
    record {
      systems = plain_kept h g n c.args.standing.now e c.requires.standing.are;
      others = rw c.as_slice.ensures.value (plain_kept h g n c.in_ok-beaten.beaten.items e c.in_ok-beaten.ensures.beaten.are);
    }

pub returns-clause-left : goal.returns-clause-left
returns-clause-left c =
    let g = c.args.meter.now in
    let h = c.all_beaten.new.meter in
    let order = c.args.order in
    let n = order.front + order.width in
    let beaten = c.in_ok-beaten.beaten.items in
    let out = rw c.as_slice.ensures.value at c.all_outside.ensures.left in
    IfOk-weaker c.all_outside.result (λ left. AreOutside h n c.args.standing.now beaten left.items)
    (λ left. AreStanding g order (c.args.at + 1) c.args.systems.now left.items)
    (λ left o. standing_more order c.args.systems.now g c.args.at c.args.standing.now beaten left.items c.requires.standing
    c.in_ok-beaten.ensures.beaten
    (outside_kept g h n c.args.standing.now beaten left.items (charged_bits g h c.in_ok-beaten.ensures.meter) o))
    out

pub returns-clause-decided : goal.returns-clause-decided
returns-clause-decided c =
    ok_case c.all_outside.result (λ left. IsDecided c.args.order c.args.at c.args.systems.now)
    (λ left is. decided_from c.args.order c.args.systems.now c.args.meter.now c.args.at c.in_ok-beaten.beaten.items
    c.in_ok-beaten.ensures.beaten)
