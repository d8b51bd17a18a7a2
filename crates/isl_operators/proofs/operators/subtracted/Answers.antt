use Rattle.std.proofs.Common.{◌≡◌, ◌↔◌, ◌∙◌, ap, refl, List}
use Rattle.std.proofs.lemmas.Bool.{false≢true}
use Rattle.std.proofs.lemmas.Result.{err_from_is_err_and, IfOk-weaker}
use Rattle.isl_space.specs.Element.{Element}
use Rattle.isl_space.specs.Name.{Name}
use Rattle.isl_space.specs.Names.{joined}
use Rattle.isl_union.specs.KeptValue.{KeptValue, Has}
use Rattle.isl_relation.specs.Maps.{RemoveDomainHas}
use Rattle.isl_tree.specs.declared.statement.Binary.TheVariants as b
use Rattle.isl_operators.specs.Operations.{OperatorHas}
use Rattle.isl_operators.specs.Made.{HasMaps, HasSets}
use Rattle.isl_operators.proofs.ElementLaws.{always_pair, left_alone, left_begun, left_without, never_begins}
use Rattle.isl_operators.proofs.FaultLaws.{within_before, within_later, worked_charged, worked_later}
use Rattle.isl_operators.proofs.NamesLaws.{joined-again, joined-second}
use Rattle.isl_operators.proofs.operators.subtracted.Goals as goal

-- ---- no pairs begin in the right one
pub returns-then-not-may_begin-clause-elements : goal.returns-then-not-may_begin-clause-elements
returns-then-not-may_begin-clause-elements c = λ v e.
    let left = c.args.left.now in
    let right = c.args.right.now in
    let never : ¬ (HasMaps left × HasSets right) = λ both. false≢true (c.if-not-may_begin.ensures.told.1 both) in
    IfOk-weaker c.minus.result (λ (value : KeptValue). Has value v e ↔ (Has left v e × (¬ Has right v e)))
    (λ (value : KeptValue). Has value v e ↔ OperatorHas b.Difference (Has left v) (Has right v) e)
    (λ value rest. left_alone (Has left v) (Has right v) e (never_begins left right v e never) (Has value v e) rest)
    (c.minus.ensures.elements v e)

pub returns-then-not-may_begin-clause-units : goal.returns-then-not-may_begin-clause-units
returns-then-not-may_begin-clause-units c =
    worked_charged (joined c.args.left.now.params c.args.right.now.params) c.args.meter.now c.minus.new.meter c.minus.result c.minus.ensures.units

-- ---- without what is in both
pub returns-in_err-both-clause-units : goal.returns-in_err-both-clause-units
returns-in_err-both-clause-units c =
    let p = err_from_is_err_and c.from_residual.result c.from_residual.ensures.1 in
    rw (p.1, p.2) c.in_err-both.ensures.units

pub minus-requires-then-has_sets-clause-own : goal.minus-requires-then-has_sets-clause-own
minus-requires-then-has_sets-clause-own c =
    within_later c.args.meter.now c.intersected.new.meter c.args.left.now c.in_ok-both.ensures.units.1.charged c.requires.left

pub minus-requires-then-has_sets-clause-other : goal.minus-requires-then-has_sets-clause-other
minus-requires-then-has_sets-clause-other c =
    within_later c.args.meter.now c.intersected.new.meter c.in_ok-both.both c.in_ok-both.ensures.units.1.charged c.in_ok-both.ensures.numbers

pub returns-then-has_sets-clause-params : goal.returns-then-has_sets-clause-params
returns-then-has_sets-clause-params c =
    let left = c.args.left.now.params in
    let right = c.args.right.now.params in
    let same = ap (joined left) c.in_ok-both.ensures.params ∙ joined-again left right in
    IfOk-weaker c.minus-then-has_sets.result (λ (value : KeptValue). value.params ≡ joined left c.in_ok-both.both.params)
    (λ (value : KeptValue). value.params ≡ joined left right) (λ value is. is ∙ same) c.minus-then-has_sets.ensures.params

pub returns-then-has_sets-clause-elements : goal.returns-then-has_sets-clause-elements
returns-then-has_sets-clause-elements c = λ v e.
    let left = c.args.left.now in
    let right = c.args.right.now in
    let both = Has c.in_ok-both.both v e in
    IfOk-weaker c.minus-then-has_sets.result (λ (value : KeptValue). Has value v e ↔ (Has left v e × (¬ both)))
    (λ (value : KeptValue). Has value v e ↔ OperatorHas b.Difference (Has left v) (Has right v) e)
    (λ value rest. left_without (Has left v) (Has right v) e both (Has value v e) (c.in_ok-both.ensures.elements v e) rest)
    (c.minus-then-has_sets.ensures.elements v e)

pub returns-then-has_sets-clause-definitions : goal.returns-then-has_sets-clause-definitions
returns-then-has_sets-clause-definitions c = λ left right.
    c.minus-then-has_sets.ensures.definitions left (c.in_ok-both.ensures.definitions left right)

pub returns-then-has_sets-clause-numbers : goal.returns-then-has_sets-clause-numbers
returns-then-has_sets-clause-numbers c =
    IfOk-weaker c.minus-then-has_sets.result _ _
    (λ value within. within_before c.args.meter.now c.intersected.new.meter value c.in_ok-both.ensures.units.1.charged within)
    c.minus-then-has_sets.ensures.numbers

pub returns-then-has_sets-clause-units : goal.returns-then-has_sets-clause-units
returns-then-has_sets-clause-units c =
    let left = c.args.left.now.params in
    let right = c.args.right.now.params in
    let joint = joined left c.in_ok-both.both.params in
    let same : joint ≡ joined left right = ap (joined left) c.in_ok-both.ensures.params ∙ joined-again left right in
    let made = c.in_ok-both.ensures.units in
    worked_later (joined left right) made.0 c.args.meter.now c.intersected.new.meter c.minus-then-has_sets.new.meter made.1.charged joint
    c.minus-then-has_sets.result same
    (worked_charged joint c.intersected.new.meter c.minus-then-has_sets.new.meter c.minus-then-has_sets.result
    c.minus-then-has_sets.ensures.units)

-- ---- pairs alone
pub returns-in_err-rest-clause-units : goal.returns-in_err-rest-clause-units
returns-in_err-rest-clause-units c =
    let p = err_from_is_err_and c.from_residual-in_err-rest.result c.from_residual-in_err-rest.ensures.1 in
    rw (p.1, p.2) c.in_err-rest.ensures.units

pub remove_domain-requires-clause-own : goal.remove_domain-requires-clause-own
remove_domain-requires-clause-own c =
    within_later c.args.meter.now c.minus-2.new.meter c.in_ok-rest.rest c.in_ok-rest.ensures.units.1 c.in_ok-rest.ensures.numbers

pub remove_domain-requires-clause-other : goal.remove_domain-requires-clause-other
remove_domain-requires-clause-other c =
    within_later c.args.meter.now c.minus-2.new.meter c.args.right.now c.in_ok-rest.ensures.units.1 c.requires.right

pub returns-clause-params : goal.returns-clause-params
returns-clause-params c =
    let left = c.args.left.now.params in
    let right = c.args.right.now.params in
    let kept = c.if-not-may_begin.ensures.kept refl in
    let same = ap (λ (names : List Name). joined names right) c.in_ok-rest.ensures.params
    ∙ joined-second left right kept.0.params.distinct kept.1.params.distinct in
    IfOk-weaker c.remove_domain.result (λ (value : KeptValue). value.params ≡ joined c.in_ok-rest.rest.params right)
    (λ (value : KeptValue). value.params ≡ joined left right) (λ value is. is ∙ same) c.remove_domain.ensures.params

pub returns-clause-elements : goal.returns-clause-elements
returns-clause-elements c = λ v e.
    let left = c.args.left.now in
    let right = c.args.right.now in
    let rest : Element → Type 0 = Has c.in_ok-rest.rest v in
    let never : ¬ HasSets left = λ sets. false≢true (c.if-has_sets.ensures.told.1 sets) in
    IfOk-weaker c.remove_domain.result (λ (value : KeptValue). Has value v e ↔ RemoveDomainHas rest (Has right v) e)
    (λ (value : KeptValue). Has value v e ↔ OperatorHas b.Difference (Has left v) (Has right v) e)
    (λ value removed. left_begun (Has left v) (Has right v) rest e (Has value v e) (always_pair left v e never)
    (λ f. c.in_ok-rest.ensures.elements v f) removed) (c.remove_domain.ensures.elements v e)

pub returns-clause-definitions : goal.returns-clause-definitions
returns-clause-definitions c = λ left right.
    c.remove_domain.ensures.definitions (c.in_ok-rest.ensures.definitions left right) right

pub returns-clause-numbers : goal.returns-clause-numbers
returns-clause-numbers c =
    IfOk-weaker c.remove_domain.result _ _
    (λ value within. within_before c.args.meter.now c.minus-2.new.meter value c.in_ok-rest.ensures.units.1 within)
    c.remove_domain.ensures.numbers

pub returns-clause-units : goal.returns-clause-units
returns-clause-units c =
    let left = c.args.left.now.params in
    let right = c.args.right.now.params in
    let kept = c.if-not-may_begin.ensures.kept refl in
    let joint = joined c.in_ok-rest.rest.params right in
    let same : joint ≡ joined left right = ap (λ (names : List Name). joined names right) c.in_ok-rest.ensures.params
    ∙ joined-second left right kept.0.params.distinct kept.1.params.distinct in
    let made = c.in_ok-rest.ensures.units in
    worked_later (joined left right) made.0 c.args.meter.now c.minus-2.new.meter c.remove_domain.new.meter made.1 joint
    c.remove_domain.result same c.remove_domain.ensures.units
