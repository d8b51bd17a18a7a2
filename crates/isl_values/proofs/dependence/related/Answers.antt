use Rattle.std.proofs.Common.{true, subst, sym}
use Rattle.std.specs.Prelude.{IfOk, MatchResult, unsigned_abs}
use Rattle.isl_meter.specs.Gauge.{limit_of}
use Rattle.isl_space.specs.Names.{AreDistinct}
use Rattle.isl_union.specs.KeptValue.{KeptValue, Has, HasNoDefinitions}
use Rattle.isl_union.specs.Numbers.{IsWithinLimit}
use Rattle.isl_operators.specs.Flow.{AnyHas}
use Rattle.isl_operators.specs.Formed.{PairsWide}
use Rattle.isl_operators.specs.Made.{IsDependenceOf, names_of_three}
use Rattle.isl_relation.specs.Formed.{FormsAccess}
use Rattle.isl_kinds.specs.Typed.{joined_names}
use Rattle.isl_values.specs.Ends.{DependenceEnds, GoesOn}
use Rattle.isl_values.specs.Made.{refusal_of_fault, IsPaid, IsMadeOf, IsWhyUnworked}
use Rattle.isl_values.proofs.OutcomeLaws.{answered_made, answered_ok, fault_ends, outcome_goes, outcome_value}
use Rattle.isl_values.proofs.ThreeLaws.{in_three, three_names}
use Rattle.isl_values.proofs.dependence.related.Goals as goal

pub depended-requires-clause-source : goal.depended-requires-clause-source
depended-requires-clause-source c = subst (IsWithinLimit c.args.meter.now) (sym c.deref.ensures) c.requires.source.1

pub depended-requires-clause-sink : goal.depended-requires-clause-sink
depended-requires-clause-sink c = subst (IsWithinLimit c.args.meter.now) (sym c.deref-2.ensures) c.requires.sink.1

pub depended-requires-clause-schedule : goal.depended-requires-clause-schedule
depended-requires-clause-schedule c = subst (IsWithinLimit c.args.meter.now) (sym c.deref-3.ensures) c.requires.schedule.1

pub returns-clause-made : goal.returns-clause-made
returns-clause-made c =
    let g = c.args.meter.now in
    let h = c.depended.new.meter in
    let e = c.depended.ensures in
    let source = c.deref.result.now in
    let sink = c.deref-2.result.now in
    let schedule = c.deref-3.result.now in
    let distinct : AreDistinct sink.params =
    subst (λ (v : KeptValue). AreDistinct v.params) (sym c.deref-2.ensures) c.requires.sink.0.params.distinct in
    let apart : AreDistinct schedule.params =
    subst (λ (v : KeptValue). AreDistinct v.params) (sym c.deref-3.ensures) c.requires.schedule.0.params.distinct in
    let same = three_names source sink schedule distinct apart in
    in_three
    (λ x y z. MatchResult c.answered.result
    (λ value. IsMadeOf (IsDependenceOf AnyHas x y z) (joined_names (joined_names x.params y.params) z.params)
    (λ v e. AnyHas (Has x v) (Has y v) (Has z v) e) (unsigned_abs (limit_of g))
    (HasNoDefinitions x × HasNoDefinitions y × HasNoDefinitions z) value.value × IsPaid true g h)
    (IsWhyUnworked true (DependenceEnds (joined_names (joined_names x.params y.params) z.params) (Has x) (Has y)) g h))
    source sink schedule _ _ _ c.deref.ensures c.deref-2.ensures c.deref-3.ensures
    (answered_made refusal_of_fault _ _ _ _ _
    (fault_ends _ (PairsWide FormsAccess (Has source) (Has sink)) _ _ (names_of_three source sink schedule)
    (joined_names (joined_names source.params sink.params) schedule.params) same) _ c.depended.result
    c.answered.result _ c.answered.ensures
    (outcome_value c.depended.result _ _ _ _ _ _ same e.written e.kept e.params e.elements
    (λ plain. e.definitions plain.0 plain.1 plain.2) e.numbers)
    e.units)

pub returns-clause-goes_on : goal.returns-clause-goes_on
returns-clause-goes_on c =
    let e = c.depended.ensures in
    let source = c.deref.result.now in
    let sink = c.deref-2.result.now in
    let schedule = c.deref-3.result.now in
    let distinct : AreDistinct sink.params =
    subst (λ (v : KeptValue). AreDistinct v.params) (sym c.deref-2.ensures) c.requires.sink.0.params.distinct in
    let apart : AreDistinct schedule.params =
    subst (λ (v : KeptValue). AreDistinct v.params) (sym c.deref-3.ensures) c.requires.schedule.0.params.distinct in
    in_three
    (λ x y z. IfOk c.answered.result
    (λ _. GoesOn (DependenceEnds (joined_names (joined_names x.params y.params) z.params) (Has x) (Has y))))
    source sink schedule _ _ _ c.deref.ensures c.deref-2.ensures c.deref-3.ensures
    (answered_ok refusal_of_fault _ c.depended.result c.answered.result _ c.answered.ensures
    (outcome_goes c.depended.result (names_of_three source sink schedule)
    (joined_names (joined_names source.params sink.params) schedule.params) (PairsWide FormsAccess (Has source) (Has sink))
    (three_names source sink schedule distinct apart) e.kept e.params e.narrow))
