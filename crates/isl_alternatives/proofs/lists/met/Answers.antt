use Rattle.std.proofs.Common.{◌≡◌, ◌<◌, ◌≤◌, arith, length}
use Rattle.std.proofs.lemmas.Grind.{common_steps}
use Rattle.isl_meter.proofs.CutLemmas.{IsCharged_trans}
use Rattle.isl_alternatives.proofs.RestrictedLaws.{met_more, over_after, over_at, some_all}
use Rattle.isl_alternatives.proofs.lists.met.Goals as goal

pub loop-other-preserved : goal.loop-other-preserved
loop-other-preserved c =
    let l = c.loop-other in
    let g = c.args.meter.now in
    let scope = c.args.scope.now in
    let j = c.pay.new.meter in
    let others = c.args.others.now in
    let inside : l.other-index < length others = grind (arith, common_steps) in
    let found : c.as_slice.result.now ≡ l.found.items = grind (arith, common_steps) in
    let charged = c.in_ok-pay.ensures.1 in
    let now_charged = IsCharged_trans g l.meter j l.invariant.charged charged in
    met_more g l.meter j scope c.args.systems.now others l.other-index c.other-item.result l.found.items c.in_ok-more.more.items c.append.new.systems.items
    inside c.other-item.is c.in_ok-append.ensures.items l.invariant charged (rw found at c.in_ok-pay.ensures.0)
    (c.in_ok-more.ensures j scope (over_after g j scope c.args.systems.now now_charged c.requires.over)
    (over_at j scope others l.other-index c.other-item.result (over_after g j scope others now_charged c.requires.others_over) inside c.other-item.is))

pub returns : goal.returns
returns c =
    let l = c.loop-other in
    let long : length c.args.others.now ≤ l.other-index = grind (arith, common_steps) in
    some_all c.args.meter.now l.meter c.args.scope.now c.args.systems.now c.args.others.now l.other-index l.found.items long l.invariant
