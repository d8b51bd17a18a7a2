use Rattle.std.proofs.Common.{◌≡◌, ◌<◌, ◌≤◌, arith, subst, length, map, true, false, sym}
use Rattle.std.proofs.lemmas.Grind.{common_steps}
use Rattle.std.proofs.lemmas.List.{length-map}
use Rattle.isl_meter.proofs.CutLemmas.{IsCharged_trans}
use Rattle.isl_difference.proofs.PartitionLaws.{mapped_at}
use Rattle.isl_gist.specs.Thinned.{IsPlain}
use Rattle.isl_gist.proofs.IdleLaws.{plain_later}
use Rattle.isl_gist.proofs.MeetingLaws.{apart_first, apart_more, met_here, met_nowhere}
use Rattle.isl_gist.proofs.pieces.meets.Goals as goal

pub loop-context-init : goal.loop-context-init
loop-context-init c = record {
  apart = apart_first c.args.system.now.columns c.args.system.now.rows;
  charged = grind (arith, common_steps);
}

pub have_common-requires-clause-system : goal.have_common-requires-clause-system
have_common-requires-clause-system c =
    plain_later c.args.meter.now c.loop-context.meter c.args.system.now.columns c.args.system.now c.loop-context.invariant.charged
    c.requires.system

pub have_common-requires-clause-context : goal.have_common-requires-clause-context
have_common-requires-clause-context c =
    let refs = c.args.contexts.now in
    let contexts = map (λ o. o.now) refs in
    let i = c.loop-context.context-index in
    let n = c.args.system.now.columns in
    let low : i < length refs = grind (arith, common_steps) in
    let inside : i < length contexts = rw (length-map refs (λ o. o.now)) low in
    let is = mapped_at (λ o. o.now) refs i c.context-item.result low c.context-item.is in
    plain_later c.args.meter.now c.loop-context.meter n c.context-item.result.now c.loop-context.invariant.charged
    (subst (IsPlain c.args.meter.now n) (sym is) (c.requires.contexts i c.context-item.result.now inside))

pub returns-then-branch-clause-exact : goal.returns-then-branch-clause-exact
returns-then-branch-clause-exact c =
    let refs = c.args.contexts.now in
    let contexts = map (λ o. o.now) refs in
    let i = c.loop-context.context-index in
    let low : i < length refs = grind (arith, common_steps) in
    let inside : i < length contexts = rw (length-map refs (λ o. o.now)) low in
    let is = mapped_at (λ o. o.now) refs i c.context-item.result low c.context-item.is in
    let yes : c.in_ok-have_common.field-0 ≡ true = grind (arith, common_steps) in
    met_here c.args.system.now.columns c.args.system.now.rows contexts i c.context-item.result.now inside is
    (c.in_ok-have_common.ensures.exact.some yes)

pub loop-context-preserved : goal.loop-context-preserved
loop-context-preserved c =
    let refs = c.args.contexts.now in
    let contexts = map (λ o. o.now) refs in
    let i = c.loop-context.context-index in
    let low : i < length refs = grind (arith, common_steps) in
    let inside : i < length contexts = rw (length-map refs (λ o. o.now)) low in
    let is = mapped_at (λ o. o.now) refs i c.context-item.result low c.context-item.is in
    let missed : c.in_ok-have_common.field-0 ≡ false = grind (arith, common_steps) in
    record {
      apart = apart_more c.args.system.now.columns c.args.system.now.rows contexts i c.context-item.result.now inside is
          c.loop-context.invariant.apart (c.in_ok-have_common.ensures.exact.none missed);
      charged = IsCharged_trans c.args.meter.now c.loop-context.meter c.have_common.new.meter c.loop-context.invariant.charged
          c.in_ok-have_common.ensures.meter;
    }

pub returns-clause-exact : goal.returns-clause-exact
returns-clause-exact c =
    let refs = c.args.contexts.now in
    let contexts = map (λ o. o.now) refs in
    let i = c.loop-context.context-index in
    let end : length refs ≤ i = grind (arith, common_steps) in
    met_nowhere c.args.system.now.columns c.args.system.now.rows contexts i (rw (length-map refs (λ o. o.now)) end)
    c.loop-context.invariant.apart
