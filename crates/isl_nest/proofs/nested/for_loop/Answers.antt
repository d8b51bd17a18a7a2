use Rattle.std.proofs.Common.{◌≡◌, ◌≤◌, ◌+◌, ◌++◌, ◌∷◌, ◌∙◌, [], ap, ℤ, List}
use Rattle.std.specs.List.{sum_by}
use Rattle.std.proofs.lemmas.Result.{IfOk-weaker}
use Rattle.isl_loop.specs.Run.{each_in, idle_of, idle_turn, trace, turns_of}
use Rattle.isl_nest.specs.Around.{turns_at}
use Rattle.isl_nest.specs.Opened.{RunsUnder}
use Rattle.isl_nest.proofs.UnderLaws.{front_calls, front_idle, front_none, front_turned}
use Rattle.isl_nest.proofs.nested.for_loop.Goals as goal

pub returns-clause-trace : goal.returns-clause-trace
returns-clause-trace c point long =
    let head = c.args.head in
    let xs = turns_at head point in
    let parted = c.in_ok-parted.parted in
    IfOk-weaker c.under-2.result (RunsUnder parted.outside c.in_ok-made.made)
    (λ whole. trace whole point ≡ each_in (λ x. trace c.args.body (point ++ x ∷ [])) xs)
    (λ whole around. front_calls c.args.variables c.of-opened.result.rows parted.outside parted.inside c.args.body c.of-opened.result.tree
    c.in_ok-inner.inner c.in_ok-made.made whole xs point long c.in_ok-parted.ensures c.of-opened.ensures c.in_ok-inner.ensures.runs around
    (c.in_ok-made.ensures.trace point)) c.under-2.ensures.runs

pub returns-clause-none : goal.returns-clause-none
returns-clause-none c point none =
    let parted = c.in_ok-parted.parted in
    IfOk-weaker c.under-2.result (RunsUnder parted.outside c.in_ok-made.made)
    (λ whole. trace whole point ≡ [])
    (λ whole around. front_none parted.outside c.in_ok-made.made whole point around
    (c.in_ok-made.ensures.trace point
    ∙ ap (each_in (λ x. trace c.in_ok-inner.inner (point ++ x ∷ []))) none)) c.under-2.ensures.runs

pub returns-clause-over : goal.returns-clause-over
returns-clause-over c g low high positive within body =
    let v = c.args.variables in
    let parts = c.of-opened.ensures.over g (v + 1) body in
    let rows = c.in_ok-parted.ensures.over g parts.0 in
    let inner = c.in_ok-inner.ensures.over g (v + 1) rows.1 parts.1 in
    c.under-2.ensures.over g v rows.0 (c.in_ok-made.ensures.over g v low high positive within inner)

pub returns-clause-turned : goal.returns-clause-turned
returns-clause-turned c point long =
    let head = c.args.head in
    let xs = turns_at head point in
    let parted = c.in_ok-parted.parted in
    IfOk-weaker c.under-2.result (RunsUnder parted.outside c.in_ok-made.made)
    (λ whole. turns_of whole point ≤ sum_by (λ x. 1 + turns_of c.args.body (point ++ x ∷ [])) xs)
    (λ whole around. front_turned c.args.variables c.of-opened.result.rows parted.outside parted.inside c.args.body c.of-opened.result.tree
    c.in_ok-inner.inner c.in_ok-made.made whole xs point long c.in_ok-parted.ensures c.of-opened.ensures c.in_ok-inner.ensures.runs around
    (c.in_ok-made.ensures.turned point)) c.under-2.ensures.runs

pub returns-clause-idle : goal.returns-clause-idle
returns-clause-idle c point long =
    let head = c.args.head in
    let xs = turns_at head point in
    let parted = c.in_ok-parted.parted in
    IfOk-weaker c.under-2.result (RunsUnder parted.outside c.in_ok-made.made)
    (λ whole. idle_of whole point
    ≤ sum_by (λ x. idle_turn (trace c.args.body (point ++ x ∷ [])) + idle_of c.args.body (point ++ x ∷ [])) xs)
    (λ whole around. front_idle c.args.variables c.of-opened.result.rows parted.outside parted.inside c.args.body c.of-opened.result.tree
    c.in_ok-inner.inner c.in_ok-made.made whole xs point long c.in_ok-parted.ensures c.of-opened.ensures c.in_ok-inner.ensures.runs around
    (c.in_ok-made.ensures.idle point)) c.under-2.ensures.runs

pub returns-clause-printable : goal.returns-clause-printable
returns-clause-printable c few body =
    let v = c.args.variables in
    c.under-2.ensures.printable v
    (c.in_ok-made.ensures.printable v few (c.in_ok-inner.ensures.printable (v + 1) (c.of-opened.ensures.printable (v + 1) body)))
