use Rattle.std.proofs.Common.{◌≡◌, true, subst, sym}
use Rattle.std.specs.Prelude.{IfOk, MatchResult, unsigned_abs}
use Rattle.isl_meter.specs.Gauge.{limit_of}
use Rattle.isl_space.specs.Names.{AreDistinct}
use Rattle.isl_union.specs.KeptValue.{KeptValue, Has, HasNoDefinitions}
use Rattle.isl_union.specs.Numbers.{IsWithinLimit}
use Rattle.isl_flow.specs.declared.sources.Flow.{Flow}
use Rattle.isl_operators.specs.Flow.{LastHas, UnsourcedHas}
use Rattle.isl_operators.specs.Formed.{PairsWide}
use Rattle.isl_operators.specs.Made.{IsDependenceOf, names_of_three}
use Rattle.isl_relation.specs.Formed.{FormsAccess}
use Rattle.isl_kinds.specs.Typed.{joined_names}
use Rattle.isl_values.specs.Ends.{DependenceEnds, GoesOn}
use Rattle.isl_values.specs.Made.{refusal_of_fault, IsPaid, IsMadeOf, IsWhyUnworked}
use Rattle.isl_values.proofs.FlowLaws.{flow_of_list, flow_values, listed_answer}
use Rattle.isl_values.proofs.OutcomeLaws.{answered_made, answered_ok, fault_ends, outcome_goes_of}
use Rattle.isl_values.proofs.ThreeLaws.{in_three, three_names}
use Rattle.isl_values.proofs.ValueLaws.{ok_map}
use Rattle.isl_values.proofs.dependence.lasts.Goals as goal

pub latest-requires-clause-source : goal.latest-requires-clause-source
latest-requires-clause-source c = subst (IsWithinLimit c.args.meter.now) (sym c.deref.ensures) c.requires.source.1

pub latest-requires-clause-sink : goal.latest-requires-clause-sink
latest-requires-clause-sink c = subst (IsWithinLimit c.args.meter.now) (sym c.deref-2.ensures) c.requires.sink.1

pub latest-requires-clause-schedule : goal.latest-requires-clause-schedule
latest-requires-clause-schedule c = subst (IsWithinLimit c.args.meter.now) (sym c.deref-3.ensures) c.requires.schedule.1

pub returns-clause-made : goal.returns-clause-made
returns-clause-made c =
    let g = c.args.meter.now in
    let h = c.latest.new.meter in
    let e = c.latest.ensures in
    let limit = unsigned_abs (limit_of g) in
    let source = c.deref.result.now in
    let sink = c.deref-2.result.now in
    let schedule = c.deref-3.result.now in
    let distinct : AreDistinct sink.params =
    subst (λ (v : KeptValue). AreDistinct v.params) (sym c.deref-2.ensures) c.requires.sink.0.params.distinct in
    let apart : AreDistinct schedule.params =
    subst (λ (v : KeptValue). AreDistinct v.params) (sym c.deref-3.ensures) c.requires.schedule.0.params.distinct in
    let own = names_of_three source sink schedule in
    let names = joined_names (joined_names source.params sink.params) schedule.params in
    let same = three_names source sink schedule distinct apart in
    in_three
    (λ x y z. MatchResult c.listed.result
    (λ list. (IsMadeOf (IsDependenceOf LastHas x y z) (joined_names (joined_names x.params y.params) z.params)
    (λ v e. LastHas (Has x v) (Has y v) (Has z v) e) (unsigned_abs (limit_of g))
    (HasNoDefinitions x × HasNoDefinitions y × HasNoDefinitions z) list.first.value
    × IsMadeOf (IsDependenceOf UnsourcedHas x y z) (joined_names (joined_names x.params y.params) z.params)
    (λ v e. UnsourcedHas (Has x v) (Has y v) (Has z v) e) (unsigned_abs (limit_of g))
    (HasNoDefinitions x × HasNoDefinitions y × HasNoDefinitions z) list.second.value) × IsPaid true g h)
    (IsWhyUnworked true (DependenceEnds (joined_names (joined_names x.params y.params) z.params) (Has x) (Has y)) g h))
    source sink schedule _ _ _ c.deref.ensures c.deref-2.ensures c.deref-3.ensures
    (answered_made refusal_of_fault _ _ _ _ _ (fault_ends _ (PairsWide FormsAccess (Has source) (Has sink)) _ _ own names same)
    flow_of_list c.latest.result c.listed.result
    (λ (flow : Flow). IsMadeOf (IsDependenceOf LastHas source sink schedule) names
    (λ v e. LastHas (Has source v) (Has sink v) (Has schedule v) e) limit
    (HasNoDefinitions source × HasNoDefinitions sink × HasNoDefinitions schedule) flow.last
    × IsMadeOf (IsDependenceOf UnsourcedHas source sink schedule) names
    (λ v e. UnsourcedHas (Has source v) (Has sink v) (Has schedule v) e) limit
    (HasNoDefinitions source × HasNoDefinitions sink × HasNoDefinitions schedule) flow.unsourced)
    (listed_answer c.latest.result c.listed.result c.listed.ensures)
    (flow_values c.latest.result own names (λ v e. LastHas (Has source v) (Has sink v) (Has schedule v) e)
    (λ v e. UnsourcedHas (Has source v) (Has sink v) (Has schedule v) e) limit
    (HasNoDefinitions source × HasNoDefinitions sink × HasNoDefinitions schedule) same e.last e.unsourced e.last_kept e.unsourced_kept
    (λ plain. e.definitions plain.0 plain.1 plain.2) e.numbers)
    e.units)

pub returns-clause-goes_on : goal.returns-clause-goes_on
returns-clause-goes_on c =
    let e = c.latest.ensures in
    let source = c.deref.result.now in
    let sink = c.deref-2.result.now in
    let schedule = c.deref-3.result.now in
    let distinct : AreDistinct sink.params =
    subst (λ (v : KeptValue). AreDistinct v.params) (sym c.deref-2.ensures) c.requires.sink.0.params.distinct in
    let apart : AreDistinct schedule.params =
    subst (λ (v : KeptValue). AreDistinct v.params) (sym c.deref-3.ensures) c.requires.schedule.0.params.distinct in
    let own = names_of_three source sink schedule in
    let names = joined_names (joined_names source.params sink.params) schedule.params in
    in_three
    (λ x y z. IfOk c.listed.result
    (λ _. GoesOn (DependenceEnds (joined_names (joined_names x.params y.params) z.params) (Has x) (Has y))))
    source sink schedule _ _ _ c.deref.ensures c.deref-2.ensures c.deref-3.ensures
    (answered_ok refusal_of_fault flow_of_list c.latest.result c.listed.result
    (λ (_ : Flow). GoesOn (DependenceEnds names (Has source) (Has sink)))
    (listed_answer c.latest.result c.listed.result c.listed.ensures)
    (outcome_goes_of (λ (flow : Flow). flow.last) c.latest.result own names (PairsWide FormsAccess (Has source) (Has sink))
    (three_names source sink schedule distinct apart) e.last_kept
    (ok_map c.latest.result (λ flow. IsDependenceOf LastHas source sink schedule flow.last) (λ flow. flow.last.params ≡ own)
    (λ flow made. made.params) e.last)
    e.narrow))
