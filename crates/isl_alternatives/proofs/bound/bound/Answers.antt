use Rattle.std.proofs.Common.{◌≡◌, ◌<◌, ◌≤◌, arith, length}
use Rattle.std.proofs.lemmas.Grind.{common_steps}
use Rattle.isl_meter.proofs.CutLemmas.{IsCharged_refl}
use Rattle.isl_alternatives.proofs.BoundLaws.{body_all, body_more, column_here, value_known_here, within_here}
use Rattle.isl_alternatives.proofs.bound.bound.Goals as goal

pub with_value-requires-clause-within : goal.with_value-requires-clause-within
with_value-requires-clause-within c =
    let l = c.loop-binder in
    let inside : l.binder-index < length c.args.binders.now = grind (arith, common_steps) in
    within_here c.args.meter.now l.meter c.args.scope.now c.args.binders.now l.binder-index c.binder-item.result l.names l.system inside
    c.binder-item.is l.invariant

pub with_value-requires-clause-column : goal.with_value-requires-clause-column
with_value-requires-clause-column c =
    let l = c.loop-binder in
    let inside : l.binder-index < length c.args.binders.now = grind (arith, common_steps) in
    column_here c.args.meter.now l.meter c.args.scope.now c.args.binders.now l.binder-index c.binder-item.result l.names l.system inside
    c.binder-item.is l.invariant

pub with_value-requires-clause-known : goal.with_value-requires-clause-known
with_value-requires-clause-known c =
    let l = c.loop-binder in
    let inside : l.binder-index < length c.args.binders.now = grind (arith, common_steps) in
    value_known_here c.args.meter.now l.meter c.args.scope.now c.args.binders.now l.binder-index c.binder-item.result l.names l.system inside
    c.binder-item.is l.invariant c.requires

pub loop-binder-preserved : goal.loop-binder-preserved
loop-binder-preserved c =
    let l = c.loop-binder in
    let inside : l.binder-index < length c.args.binders.now = grind (arith, common_steps) in
    body_more c.args.meter.now l.meter c.args.scope.now c.args.binders.now l.binder-index c.binder-item.result l.names l.system inside
    c.binder-item.is l.invariant c.push.new.self c.in_ok-system.system c.with_value.new.meter (grind (arith, common_steps)) c.in_ok-system.ensures.meter
    c.in_ok-system.ensures.within c.in_ok-system.ensures.points

pub returns : goal.returns
returns c =
    let l = c.loop-binder in
    let low : length c.args.binders.now ≤ l.binder-index = grind (arith, common_steps) in
    let high : l.binder-index ≤ length c.args.binders.now = grind (arith, common_steps) in (
      body_all c.args.meter.now l.meter c.args.scope.now c.args.binders.now l.binder-index l.names l.system low high l.invariant,
      IsCharged_refl c.args.meter.now l.meter l.invariant.meter,
    )
