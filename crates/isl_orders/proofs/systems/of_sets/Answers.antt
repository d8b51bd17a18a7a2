use Rattle.std.proofs.Common.{subst, List, ◌+◌}
use Rattle.std.proofs.lemmas.Result.{IfOk-weaker}
use Rattle.isl_piece.specs.declared.system.System.{System}
use Rattle.isl_orders.specs.Left.{AreLeftWith}
use Rattle.isl_orders.specs.Ordered.{AreOfSets}
use Rattle.isl_orders.proofs.SystemLaws.{sets_made}
use Rattle.isl_orders.proofs.systems.of_sets.Goals as goal

pub returns-clause-left : goal.returns-clause-left
returns-clause-left c =
    let g = c.args.meter.now in
    let n = c.args.columns.parameters in
    let w = c.args.columns.compared in
    let own = c.args.own.now in
    let other = c.args.other.now in
    let both = c.in_ok-both.both in
    let cases = c.in_ok-cases.cases.items in
    let together = c.in_ok-both.ensures g c.requires.own_within c.requires.other_within in
    IfOk-weaker c.left_with_any.result (λ left. AreLeftWith g both c.as_slice.result.now (n + (w + w)) 0 left.items)
    (λ left. AreOfSets g n w c.args.order own other left.items)
    (λ left are. sets_made n w c.args.order own other both cases left.items g together c.in_ok-cases.ensures
    (subst (λ (l : List System). AreLeftWith g both l (n + (w + w)) 0 left.items) c.as_slice.ensures.value are))
    c.left_with_any.ensures.left
