use Rattle.std.proofs.Common.{subst, List, ◌+◌}
use Rattle.std.proofs.lemmas.Result.{IfOk-weaker}
use Rattle.isl_piece.specs.declared.system.System.{System}
use Rattle.isl_orders.specs.Left.{AreLeftWith}
use Rattle.isl_orders.specs.Ordered.{AreOfMaps}
use Rattle.isl_orders.proofs.SystemLaws.{maps_made}
use Rattle.isl_orders.proofs.systems.of_maps.Goals as goal

pub returns-clause-left : goal.returns-clause-left
returns-clause-left c =
    let g = c.args.meter.now in
    let columns = c.args.columns in
    let kept = columns.parameters + (columns.first + columns.second) in
    let w = columns.compared in
    let own = c.args.own.now in
    let other = c.args.other.now in
    let both = c.in_ok-both.both in
    let cases = c.in_ok-cases.cases.items in
    let together = c.in_ok-both.ensures g c.requires.own_within c.requires.other_within in
    IfOk-weaker c.left_with_any.result (λ left. AreLeftWith g both c.as_slice.result.now kept (w + w) left.items)
    (λ left. AreOfMaps g columns c.args.order own other left.items)
    (λ left are. maps_made columns c.args.order own other both cases left.items g together c.in_ok-cases.ensures
    (subst (λ (l : List System). AreLeftWith g both l kept (w + w) left.items) c.as_slice.ensures.value are)) c.left_with_any.ensures.left
