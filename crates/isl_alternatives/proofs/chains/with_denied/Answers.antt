use Rattle.std.proofs.Common.{◌≡◌, arith}
use Rattle.std.proofs.lemmas.Grind.{common_steps}
use Rattle.isl_meter.proofs.CutLemmas.{IsCharged_trans}
use Rattle.isl_alternatives.specs.Ahead.{ahead_of}
use Rattle.isl_alternatives.specs.Chain.{opposite}
use Rattle.isl_alternatives.proofs.ChainLaws.{WhereDenied, all_compared, denied_known, denied_more, known_next}
use Rattle.isl_alternatives.proofs.RestrictedLaws.{over_after}
use Rattle.isl_alternatives.proofs.chains.with_denied.Goals as goal

pub compared-requires-clause-over : goal.compared-requires-clause-over
compared-requires-clause-over c =
    let l = c.loop-comparison in
    let base : c.in_ok-base.base.items ≡ c.args.systems.now = grind (arith, common_steps) in
    rw base (over_after c.args.meter.now c.begun.new.meter c.args.scope.now c.args.systems.now
    (IsCharged_trans c.args.meter.now l.meter c.begun.new.meter l.invariant.1 c.in_ok-base.ensures.2) c.requires.over)

pub compared-requires-clause-known : goal.compared-requires-clause-known
compared-requires-clause-known c =
    let l = c.loop-comparison in
    let k = c.in-Some.comparison in
    let next = rw c.in-Some.is at c.next.ensures in
    let turned : c.opposite.result ≡ opposite k.compare = c.opposite.ensures in
    rw turned (denied_known c.args.scope.now (k.left.now, k.compare, k.right.now)
    (known_next c.args.meter.now l.meter c.args.scope.now (ahead_of c.args.ahead) (ahead_of l.ahead) (ahead_of c.next.new.self) WhereDenied
    c.args.systems.now l.found.items (k.left.now, k.compare, k.right.now) next l.invariant.0 c.requires.known))

pub loop-comparison-preserved : goal.loop-comparison-preserved
loop-comparison-preserved c =
    let g = c.args.meter.now in
    let l = c.loop-comparison in
    let h = c.begun.new.meter in
    let end = c.compared.new.meter in
    let k = c.in-Some.comparison in
    let next = rw c.in-Some.is at c.next.ensures in
    let turned : c.opposite.result ≡ opposite k.compare = c.opposite.ensures in
    let found : c.as_slice.result.now ≡ l.found.items = grind (arith, common_steps) in
    let paid = c.in_ok-base.ensures.2 in
    let more = rw turned at c.in_ok-more.ensures in (
      denied_more g l.meter h end c.args.scope.now (ahead_of c.args.ahead) (ahead_of l.ahead) (ahead_of c.next.new.self)
          (k.left.now, k.compare, k.right.now) c.args.systems.now l.found.items c.in_ok-base.base.items c.in_ok-more.more.items
          c.append.new.systems.items next l.invariant.0 paid (rw found at c.in_ok-base.ensures.1) c.in_ok-base.ensures.0 more
          c.in_ok-append.ensures.items,
      IsCharged_trans g h end (IsCharged_trans g l.meter h l.invariant.1 paid) more.charged,
    )

pub returns : goal.returns
returns c =
    let l = c.loop-comparison in
    all_compared c.args.meter.now l.meter c.args.scope.now (ahead_of c.args.ahead) (ahead_of l.ahead) WhereDenied c.args.systems.now
    l.found.items (rw c.in_default.is at c.next.ensures) l.invariant.0
