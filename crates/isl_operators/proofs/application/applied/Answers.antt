use Rattle.std.proofs.Common.{◌≡◌, ◌≤◌, ◌∙◌, ℕ, ap₂, length, subst}
use Rattle.std.proofs.lemmas.Bool.{false≢true}
use Rattle.std.proofs.lemmas.Result.{err_from_is_err_and, IfOk-weaker}
use Rattle.isl_meter.proofs.CutLemmas.{IsCharged_trans}
use Rattle.isl_space.specs.Limits.{most_parameters}
use Rattle.isl_space.specs.Names.{joined}
use Rattle.isl_union.specs.KeptValue.{KeptValue, Has}
use Rattle.isl_relation.specs.Formed.{FormsJoin}
use Rattle.isl_relation.specs.Maps.{ApplyHas, JoinHas}
use Rattle.isl_relation.specs.Wide.{PairsTooWide}
use Rattle.isl_operators.specs.Operations.{ApplicationHas}
use Rattle.isl_operators.specs.Formed.{ApplicationForms, PairsWide}
use Rattle.isl_operators.specs.Made.{HasMaps}
use Rattle.isl_operators.proofs.ApplicationLaws.{none_follow, none_formed}
use Rattle.isl_operators.proofs.FaultLaws.{form_fault_of, last_result, later_by_names, why_worked, within_before, within_later}
use Rattle.isl_operators.proofs.FaultLaws.{worked_result, worked_units}
use Rattle.isl_operators.proofs.MadeLaws.{always, either_same, first_alone, over}
use Rattle.isl_operators.proofs.NamesLaws.{joined-turned, turned_long}
use Rattle.isl_operators.proofs.WideLaws.{pairs_narrow, pairs_wide, turned_narrow, turned_wide}
use Rattle.isl_operators.proofs.application.applied.Goals as goal

-- ---- the argument has no maps
pub returns-then-not-has_maps-clause-elements : goal.returns-then-not-has_maps-clause-elements
returns-then-not-has_maps-clause-elements c = λ v e.
    let map = c.args.map.now in
    let argument = c.args.argument.now in
    let none : ¬ HasMaps argument = λ maps. false≢true (c.if-not-has_maps.ensures.told.1 maps) in
    IfOk-weaker c.apply.result _ _
    (λ (value : KeptValue) has. first_alone (ApplyHas (Has map v) (Has argument v) e) (JoinHas (Has argument v) (Has map v) e)
    (Has value v e) (none_follow map argument v e none) has) (c.apply.ensures.elements v e)

pub returns-then-not-has_maps-clause-written : goal.returns-then-not-has_maps-clause-written
returns-then-not-has_maps-clause-written c =
    let map = c.args.map.now in
    let argument = c.args.argument.now in
    over (joined map.params argument.params) (λ valuation element. ApplicationHas (Has map valuation) (Has argument valuation) element)
    c.apply.result c.apply.ensures.params (returns-then-not-has_maps-clause-elements c)

pub returns-then-not-has_maps-clause-narrow : goal.returns-then-not-has_maps-clause-narrow
returns-then-not-has_maps-clause-narrow c =
    let map = c.args.map.now in
    let argument = c.args.argument.now in
    let none : ¬ HasMaps argument = λ maps. false≢true (c.if-not-has_maps.ensures.told.1 maps) in
    always c.apply.result (¬ PairsWide ApplicationForms (Has map) (Has argument)) (none_formed map argument none)

pub returns-then-not-has_maps-clause-units : goal.returns-then-not-has_maps-clause-units
returns-then-not-has_maps-clause-units c =
    let map = c.args.map.now in
    let argument = c.args.argument.now in
    let none : ¬ HasMaps argument = λ maps. false≢true (c.if-not-has_maps.ensures.told.1 maps) in
    worked_units (joined map.params argument.params) (PairsWide ApplicationForms (Has map) (Has argument)) c.args.meter.now
    c.apply.new.meter _ (none_formed map argument none) c.apply.result c.apply.ensures.units

-- ---- followed
pub returns-in_err-followed-clause-units : goal.returns-in_err-followed-clause-units
returns-in_err-followed-clause-units c =
    let map = c.args.map.now in
    let argument = c.args.argument.now in
    let one = c.pieces-map.ensures.kept in
    let two = c.pieces-argument.ensures.kept in
    let names = joined map.params argument.params in
    let turned = joined argument.params map.params in
    let Forms = PairsTooWide FormsJoin argument map in
    let Wide = PairsWide ApplicationForms (Has map) (Has argument) in
    let wider = λ (wide : Forms). turned_wide FormsJoin (Has map) (Has argument) (pairs_wide FormsJoin argument map two one wide) in
    let narrower = λ (never : ¬ Forms). turned_narrow FormsJoin (Has map) (Has argument) (pairs_narrow FormsJoin argument map never) in
    let long = turned_long map.params argument.params one.params.distinct two.params.distinct in
    let fault = c.in_err-followed.field-0.0 in
    let p = err_from_is_err_and c.from_residual.result c.from_residual.ensures.1 in
    rw (p.1, p.2)
    (why_worked names Wide c.args.meter.now c.join.new.meter fault
    (form_fault_of turned names Forms Wide c.args.meter.now c.join.new.meter fault long wider narrower c.in_err-followed.ensures.units))

pub apply-requires-2-clause-maps : goal.apply-requires-2-clause-maps
apply-requires-2-clause-maps c =
    within_later c.args.meter.now c.join.new.meter c.args.map.now c.in_ok-followed.ensures.units.2.charged c.requires.map

pub apply-requires-2-clause-sets : goal.apply-requires-2-clause-sets
apply-requires-2-clause-sets c =
    within_later c.args.meter.now c.join.new.meter c.args.argument.now c.in_ok-followed.ensures.units.2.charged c.requires.argument

-- ---- images
pub returns-in_err-images-clause-units : goal.returns-in_err-images-clause-units
returns-in_err-images-clause-units c =
    let map = c.args.map.now in
    let argument = c.args.argument.now in
    let one = c.pieces-map.ensures.kept.params.distinct in
    let two = c.pieces-argument.ensures.kept.params.distinct in
    let names = joined map.params argument.params in
    let Wide = PairsWide ApplicationForms (Has map) (Has argument) in
    let made = c.in_ok-followed.ensures.units in
    let few : length names ≤ most_parameters =
    subst (λ (n : ℕ). n ≤ most_parameters) (turned_long map.params argument.params one two) made.0 in
    let narrow = turned_narrow FormsJoin (Has map) (Has argument) (pairs_narrow FormsJoin argument map made.1) in
    let fault = c.in_err-images.field-0.0 in
    let p = err_from_is_err_and c.from_residual-in_err-images.result c.from_residual-in_err-images.ensures.1 in
    rw (p.1, p.2)
    (why_worked names Wide c.args.meter.now c.apply-2.new.meter fault
    (later_by_names names Wide few narrow c.args.meter.now c.join.new.meter c.apply-2.new.meter made.2.charged fault
    c.in_err-images.ensures.units))

pub union-requires-clause-own : goal.union-requires-clause-own
union-requires-clause-own c =
    within_later c.join.new.meter c.apply-2.new.meter c.in_ok-images.images c.in_ok-images.ensures.units.1.charged
    c.in_ok-images.ensures.numbers

pub union-requires-clause-other : goal.union-requires-clause-other
union-requires-clause-other c =
    let charged = IsCharged_trans c.args.meter.now c.join.new.meter c.apply-2.new.meter c.in_ok-followed.ensures.units.2.charged
    c.in_ok-images.ensures.units.1.charged in
    within_later c.args.meter.now c.apply-2.new.meter c.in_ok-followed.followed charged c.in_ok-followed.ensures.numbers

-- ---- the value
pub returns-clause-params : goal.returns-clause-params
returns-clause-params c =
    let map = c.args.map.now.params in
    let argument = c.args.argument.now.params in
    let one = c.pieces-map.ensures.kept.params.distinct in
    let two = c.pieces-argument.ensures.kept.params.distinct in
    let same = ap₂ joined c.in_ok-images.ensures.params c.in_ok-followed.ensures.params ∙ joined-turned map argument one two in
    IfOk-weaker c.union.result (λ (value : KeptValue). value.params ≡ joined c.in_ok-images.images.params c.in_ok-followed.followed.params)
    (λ (value : KeptValue). value.params ≡ joined map argument) (λ value is. is ∙ same) c.union.ensures.params

pub returns-clause-elements : goal.returns-clause-elements
returns-clause-elements c = λ v e.
    let images = c.in_ok-images.ensures.elements v e in
    let followed = c.in_ok-followed.ensures.elements v e in
    IfOk-weaker c.union.result _ _ (λ value both. either_same _ _ _ _ _ images followed both) (c.union.ensures.elements v e)

pub returns-clause-written : goal.returns-clause-written
returns-clause-written c =
    let map = c.args.map.now in
    let argument = c.args.argument.now in
    over (joined map.params argument.params) (λ valuation element. ApplicationHas (Has map valuation) (Has argument valuation) element)
    c.union.result (returns-clause-params c) (returns-clause-elements c)

pub returns-clause-numbers : goal.returns-clause-numbers
returns-clause-numbers c =
    c.union.ensures.numbers _
    (within_before c.args.meter.now c.join.new.meter c.in_ok-images.images c.in_ok-followed.ensures.units.2.charged
    c.in_ok-images.ensures.numbers) c.in_ok-followed.ensures.numbers

pub returns-clause-narrow : goal.returns-clause-narrow
returns-clause-narrow c =
    let map = c.args.map.now in
    let argument = c.args.argument.now in
    always c.union.result (¬ PairsWide ApplicationForms (Has map) (Has argument))
    (turned_narrow FormsJoin (Has map) (Has argument) (pairs_narrow FormsJoin argument map c.in_ok-followed.ensures.units.1))

pub returns-clause-units : goal.returns-clause-units
returns-clause-units c =
    let map = c.args.map.now in
    let argument = c.args.argument.now in
    let one = c.pieces-map.ensures.kept.params.distinct in
    let two = c.pieces-argument.ensures.kept.params.distinct in
    let names = joined map.params argument.params in
    let joint = joined c.in_ok-images.images.params c.in_ok-followed.followed.params in
    let Wide = PairsWide ApplicationForms (Has map) (Has argument) in
    let made = c.in_ok-followed.ensures.units in
    let same : joint ≡ names =
    ap₂ joined c.in_ok-images.ensures.params c.in_ok-followed.ensures.params ∙ joined-turned map.params argument.params one two in
    let few : length names ≤ most_parameters =
    subst (λ (n : ℕ). n ≤ most_parameters) (turned_long map.params argument.params one two) made.0 in
    let narrow = turned_narrow FormsJoin (Has map) (Has argument) (pairs_narrow FormsJoin argument map made.1) in
    let charged = IsCharged_trans c.args.meter.now c.join.new.meter c.apply-2.new.meter made.2.charged
    c.in_ok-images.ensures.units.1.charged in
    worked_result names Wide c.args.meter.now c.union.new.meter c.union.result
    (last_result names Wide few narrow c.args.meter.now c.apply-2.new.meter c.union.new.meter charged joint _ c.union.result same
    c.union.ensures.meter c.union.ensures.faults)
