use Rattle.std.proofs.Common.{◌≡◌, ◌↔◌, ◌⊎◌, ◌∙◌, ap₂, refl}
use Rattle.std.proofs.lemmas.Bool.{false≢true}
use Rattle.std.proofs.lemmas.Result.{err_from_is_err_and, IfOk-weaker}
use Rattle.isl_meter.proofs.CutLemmas.{IsCharged_trans}
use Rattle.isl_space.specs.Names.{joined}
use Rattle.isl_space.proofs.NamesLaws.{joined-self}
use Rattle.isl_union.specs.KeptValue.{KeptValue, Has}
use Rattle.isl_union.specs.Numbers.{IsWithinLimit}
use Rattle.isl_tree.specs.declared.statement.Binary.TheVariants as b
use Rattle.isl_operators.specs.Operations.{OperatorHas}
use Rattle.isl_operators.specs.Made.{HasMaps, HasSets}
use Rattle.isl_operators.proofs.ElementLaws.{begun_both, meets_alone, never_begins}
use Rattle.isl_operators.proofs.FaultLaws.{at_least_none, fault_by_later, within_before, within_later, worked_last}
use Rattle.isl_operators.proofs.operators.intersected.Goals as goal

pub returns-in_err-met-clause-units : goal.returns-in_err-met-clause-units
returns-in_err-met-clause-units c =
    let p = err_from_is_err_and c.from_residual.result c.from_residual.ensures.1 in
    rw (p.1, p.2) c.in_err-met.ensures.units

pub returns-then-not-may_begin-clause-elements : goal.returns-then-not-may_begin-clause-elements
returns-then-not-may_begin-clause-elements c = λ v e.
    let left = c.args.left.now in
    let right = c.args.right.now in
    let never : ¬ (HasMaps left × HasSets right) = λ both. false≢true (c.if-not-may_begin.ensures.told.1 both) in
    meets_alone (Has left v) (Has right v) e (never_begins left right v e never) (Has c.in_ok-met.met v e)
    (c.in_ok-met.ensures.elements v e)

pub returns-then-not-may_begin-clause-numbers : goal.returns-then-not-may_begin-clause-numbers
returns-then-not-may_begin-clause-numbers c = c.in_ok-met.ensures.numbers _ c.requires.left c.requires.right

pub returns-then-not-may_begin-clause-units : goal.returns-then-not-may_begin-clause-units
returns-then-not-may_begin-clause-units c =
    let made = c.in_ok-met.ensures.units in
    (made.0, at_least_none c.args.meter.now c.meet.new.meter made.1.charged)

pub restrict_domain-requires-clause-own : goal.restrict_domain-requires-clause-own
restrict_domain-requires-clause-own c =
    within_later c.args.meter.now c.meet.new.meter c.args.left.now c.in_ok-met.ensures.units.1.charged c.requires.left

pub restrict_domain-requires-clause-other : goal.restrict_domain-requires-clause-other
restrict_domain-requires-clause-other c =
    within_later c.args.meter.now c.meet.new.meter c.args.right.now c.in_ok-met.ensures.units.1.charged c.requires.right

pub returns-in_err-begun-clause-units : goal.returns-in_err-begun-clause-units
returns-in_err-begun-clause-units c =
    let names = joined c.args.left.now.params c.args.right.now.params in
    let made = c.in_ok-met.ensures.units in
    let p = err_from_is_err_and c.from_residual-in_err-begun.result c.from_residual-in_err-begun.ensures.1 in
    rw (p.1, p.2)
    (fault_by_later names made.0 c.args.meter.now c.meet.new.meter c.restrict_domain.new.meter made.1.charged c.in_err-begun.field-0.0
    c.in_err-begun.ensures.units)

pub union-requires-clause-own : goal.union-requires-clause-own
union-requires-clause-own c =
    within_later c.meet.new.meter c.restrict_domain.new.meter c.in_ok-begun.begun c.in_ok-begun.ensures.units.1.charged
    c.in_ok-begun.ensures.numbers

pub union-requires-clause-other : goal.union-requires-clause-other
union-requires-clause-other c =
    let charged = IsCharged_trans c.args.meter.now c.meet.new.meter c.restrict_domain.new.meter c.in_ok-met.ensures.units.1.charged
    c.in_ok-begun.ensures.units.1.charged in
    within_later c.args.meter.now c.restrict_domain.new.meter c.in_ok-met.met charged
    (c.in_ok-met.ensures.numbers _ c.requires.left c.requires.right)

pub returns-clause-params : goal.returns-clause-params
returns-clause-params c =
    let names = joined c.args.left.now.params c.args.right.now.params in
    let same = ap₂ joined c.in_ok-begun.ensures.params c.in_ok-met.ensures.params ∙ joined-self names in
    IfOk-weaker c.union.result (λ (value : KeptValue). value.params ≡ joined c.in_ok-begun.begun.params c.in_ok-met.met.params)
    (λ (value : KeptValue). value.params ≡ names) (λ value is. is ∙ same) c.union.ensures.params

pub returns-clause-elements : goal.returns-clause-elements
returns-clause-elements c = λ v e.
    let left = c.args.left.now in
    let right = c.args.right.now in
    let begun = Has c.in_ok-begun.begun v e in
    let met = Has c.in_ok-met.met v e in
    IfOk-weaker c.union.result (λ (value : KeptValue). Has value v e ↔ (begun ⊎ met))
    (λ (value : KeptValue). Has value v e ↔ OperatorHas b.Intersection (Has left v) (Has right v) e)
    (λ value both. begun_both (Has left v) (Has right v) e begun met (Has value v e) (c.in_ok-begun.ensures.elements v e)
    (c.in_ok-met.ensures.elements v e) both) (c.union.ensures.elements v e)

pub returns-clause-numbers : goal.returns-clause-numbers
returns-clause-numbers c =
    let begun : IsWithinLimit c.args.meter.now c.in_ok-begun.begun =
    within_before c.args.meter.now c.meet.new.meter c.in_ok-begun.begun c.in_ok-met.ensures.units.1.charged c.in_ok-begun.ensures.numbers in
    c.union.ensures.numbers _ begun (c.in_ok-met.ensures.numbers _ c.requires.left c.requires.right)

pub returns-clause-pieces : goal.returns-clause-pieces
returns-clause-pieces c = λ never. absurd (never (c.if-not-may_begin.ensures.told.0 refl))

pub returns-clause-units : goal.returns-clause-units
returns-clause-units c =
    let names = joined c.args.left.now.params c.args.right.now.params in
    let joint = joined c.in_ok-begun.begun.params c.in_ok-met.met.params in
    let same : joint ≡ names = ap₂ joined c.in_ok-begun.ensures.params c.in_ok-met.ensures.params ∙ joined-self names in
    let made = c.in_ok-met.ensures.units in
    let charged = IsCharged_trans c.args.meter.now c.meet.new.meter c.restrict_domain.new.meter made.1.charged
    c.in_ok-begun.ensures.units.1.charged in
    worked_last names made.0 c.args.meter.now c.restrict_domain.new.meter c.union.new.meter charged joint _ c.union.result same
    c.union.ensures.meter c.union.ensures.faults
