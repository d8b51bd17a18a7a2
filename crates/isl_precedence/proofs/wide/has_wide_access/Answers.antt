use Rattle.std.proofs.Common.{◌↔◌, arith, sym, ◌∙◌, ◌<◌, ◌≤◌, length, IsTrue}
use Rattle.std.proofs.lemmas.Bool.{false≢true}
use Rattle.isl_precedence.specs.WideAccess.{IsWideAccess}
use Rattle.isl_relation.proofs.SeekLaws.{none_all, none_more}
use Rattle.isl_precedence.proofs.wide.has_wide_access.Goals as goal

pub loop-sink-preserved : goal.loop-sink-preserved
loop-sink-preserved c =
    let sinks = c.args.sinks.now in
    let i = c.loop-sink.sink-index in
    let other = c.sink-item.result in
    let low : i < length sinks = omega arith in
    let told : IsTrue c.in_ok-is_wide_access.field-0 ↔ IsWideAccess c.args.source.now.space other.space =
    rw (c.space.ensures, c.space-in-loop-sink.ensures) at c.in_ok-is_wide_access.ensures in
    none_more (λ q. IsWideAccess c.args.source.now.space q.space) sinks i other low c.sink-item.is c.loop-sink.invariant
    (λ wide. false≢true (sym c.if-branch.false ∙ told.1 wide))

pub returns : goal.returns
returns c =
    let sinks = c.args.sinks.now in
    let end : length sinks ≤ c.loop-sink.sink-index = omega arith in
    none_all (λ q. IsWideAccess c.args.source.now.space q.space) sinks c.loop-sink.sink-index end c.loop-sink.invariant
