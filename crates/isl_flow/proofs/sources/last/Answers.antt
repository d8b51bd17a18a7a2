use Rattle.std.proofs.Common.{◌≡◌, ◌↔◌, inr, refl, sym, ◌∙◌}
use Rattle.std.proofs.lemmas.Bool.{false≢true}
use Rattle.std.proofs.lemmas.Result.{IfOk-weaker, MatchResult-weaker}
use Rattle.isl_space.specs.Names.{joined}
use Rattle.isl_union.specs.KeptValue.{Has, HasNoDefinitions, IsKeptValue}
use Rattle.isl_union.specs.Numbers.{IsWithinLimit}
use Rattle.isl_relation.specs.Flow.{LastHas, UnsourcedHas}
use Rattle.isl_relation.specs.Formed.{FormsAccess}
use Rattle.isl_relation.specs.Wide.{PairsTooWide}
use Rattle.isl_flow.specs.Last.{IsFlowOf}
use Rattle.isl_flow.proofs.SinkLaws.{formed_cut}
use Rattle.isl_precedence.proofs.WideLaws.{narrow_pairs, wide_exactly}
use Rattle.isl_flow.proofs.sources.last.Goals as goal

pub have_wide_access-requires-clause-sources : goal.have_wide_access-requires-clause-sources
have_wide_access-requires-clause-sources c = λ k d l. (c.pieces.ensures.well_formed k d l).kept.space

pub have_wide_access-requires-clause-sinks : goal.have_wide_access-requires-clause-sinks
have_wide_access-requires-clause-sinks c = λ k d l. (c.pieces-2.ensures.well_formed k d l).kept.space

pub flow_of-requires-clause-aligned : goal.flow_of-requires-clause-aligned
flow_of-requires-clause-aligned c = (c.args.m.now, c.args.n.now, c.args.t.now, c.in_ok-operands.ensures.exact)

pub flow_of-requires-clause-narrow : goal.flow_of-requires-clause-narrow
flow_of-requires-clause-narrow c =
    let m = c.args.m.now in
    let n = c.args.n.now in
    let operands = c.in_ok-operands.operands in
    let is = c.in_ok-operands.ensures.exact in
    let exact = wide_exactly m n c.pieces.result.now c.pieces-2.result.now c.pieces.ensures.content c.pieces-2.ensures.content in
    let never : ¬ PairsTooWide FormsAccess m n =
    λ wide. false≢true (sym c.if-branch.false ∙ c.in_ok-have_wide_access.ensures.1 (exact.1 wide)) in
    narrow_pairs c.args.meter.now m n operands.params operands.sources.items operands.sinks.items is.sources is.sinks never

pub returns-then-branch-clause-units : goal.returns-then-branch-clause-units
returns-then-branch-clause-units c =
    let exact = wide_exactly c.args.m.now c.args.n.now c.pieces.result.now c.pieces-2.result.now c.pieces.ensures.content
    c.pieces-2.ensures.content in
    (inr (c.in_ok-operands.ensures.faults, exact.0 (c.in_ok-have_wide_access.ensures.0 c.if-branch.true)), refl)

pub returns-clause-last_kept : goal.returns-clause-last_kept
returns-clause-last_kept c =
    let m = c.args.m.now in
    let n = c.args.n.now in
    let t = c.args.t.now in
    let g = c.args.meter.now in
    let is = c.in_ok-operands.ensures.exact in
    IfOk-weaker c.flow_of.result (IsFlowOf g c.in_ok-operands.operands.params m n t) (λ flow. IsKeptValue flow.last)
    (λ flow made. made.last.kept) (c.flow_of.ensures.made m n t is)

pub returns-clause-unsourced_kept : goal.returns-clause-unsourced_kept
returns-clause-unsourced_kept c =
    let m = c.args.m.now in
    let n = c.args.n.now in
    let t = c.args.t.now in
    let g = c.args.meter.now in
    let is = c.in_ok-operands.ensures.exact in
    IfOk-weaker c.flow_of.result (IsFlowOf g c.in_ok-operands.operands.params m n t) (λ flow. IsKeptValue flow.unsourced)
    (λ flow made. made.unsourced.kept) (c.flow_of.ensures.made m n t is)

pub returns-clause-last_params : goal.returns-clause-last_params
returns-clause-last_params c =
    let m = c.args.m.now in
    let n = c.args.n.now in
    let t = c.args.t.now in
    let g = c.args.meter.now in
    let is = c.in_ok-operands.ensures.exact in
    IfOk-weaker c.flow_of.result (IsFlowOf g c.in_ok-operands.operands.params m n t)
    (λ flow. flow.last.params ≡ joined (joined m.params n.params) t.params)
    (λ flow made. made.last.declared ∙ is.params) (c.flow_of.ensures.made m n t is)

pub returns-clause-unsourced_params : goal.returns-clause-unsourced_params
returns-clause-unsourced_params c =
    let m = c.args.m.now in
    let n = c.args.n.now in
    let t = c.args.t.now in
    let g = c.args.meter.now in
    let is = c.in_ok-operands.ensures.exact in
    IfOk-weaker c.flow_of.result (IsFlowOf g c.in_ok-operands.operands.params m n t)
    (λ flow. flow.unsourced.params ≡ joined (joined m.params n.params) t.params)
    (λ flow made. made.unsourced.declared ∙ is.params) (c.flow_of.ensures.made m n t is)

pub returns-clause-last : goal.returns-clause-last
returns-clause-last c v e =
    let m = c.args.m.now in
    let n = c.args.n.now in
    let t = c.args.t.now in
    let g = c.args.meter.now in
    let is = c.in_ok-operands.ensures.exact in
    IfOk-weaker c.flow_of.result (IsFlowOf g c.in_ok-operands.operands.params m n t)
    (λ flow. Has flow.last v e ↔ LastHas (Has m v) (Has n v) (Has t v) e)
    (λ flow made. made.last.elements v e) (c.flow_of.ensures.made m n t is)

pub returns-clause-unsourced : goal.returns-clause-unsourced
returns-clause-unsourced c v e =
    let m = c.args.m.now in
    let n = c.args.n.now in
    let t = c.args.t.now in
    let g = c.args.meter.now in
    let is = c.in_ok-operands.ensures.exact in
    IfOk-weaker c.flow_of.result (IsFlowOf g c.in_ok-operands.operands.params m n t)
    (λ flow. Has flow.unsourced v e ↔ UnsourcedHas (Has m v) (Has n v) (Has t v) e)
    (λ flow made. made.unsourced.elements v e) (c.flow_of.ensures.made m n t is)

pub returns-clause-definitions : goal.returns-clause-definitions
returns-clause-definitions c first second third =
    let m = c.args.m.now in
    let n = c.args.n.now in
    let t = c.args.t.now in
    let g = c.args.meter.now in
    let is = c.in_ok-operands.ensures.exact in
    IfOk-weaker c.flow_of.result (IsFlowOf g c.in_ok-operands.operands.params m n t)
    (λ flow. HasNoDefinitions flow.last × HasNoDefinitions flow.unsourced)
    (λ flow made. (made.last.definitions (first, second, third), made.unsourced.definitions (first, second, third)))
    (c.flow_of.ensures.made m n t is)

pub returns-clause-numbers : goal.returns-clause-numbers
returns-clause-numbers c =
    let m = c.args.m.now in
    let n = c.args.n.now in
    let t = c.args.t.now in
    let g = c.args.meter.now in
    let is = c.in_ok-operands.ensures.exact in
    IfOk-weaker c.flow_of.result (IsFlowOf g c.in_ok-operands.operands.params m n t)
    (λ flow. IsWithinLimit g flow.last × IsWithinLimit g flow.unsourced)
    (λ flow made. (made.last.numbers, made.unsourced.numbers)) (c.flow_of.ensures.made m n t is)

pub returns-clause-units : goal.returns-clause-units
returns-clause-units c =
    let exact = wide_exactly c.args.m.now c.args.n.now c.pieces.result.now c.pieces-2.result.now c.pieces.ensures.content
    c.pieces-2.ensures.content in
    let never : ¬ PairsTooWide FormsAccess c.args.m.now c.args.n.now =
    λ wide. false≢true (sym c.if-branch.false ∙ c.in_ok-have_wide_access.ensures.1 (exact.1 wide)) in
    let few = c.in_ok-operands.ensures.faults in
    MatchResult-weaker c.flow_of.result c.flow_of.ensures.meter (λ flow charged. (few, never, charged))
    (λ fault cut. formed_cut _ _ c.args.meter.now c.flow_of.new.meter (few, never) fault cut)
