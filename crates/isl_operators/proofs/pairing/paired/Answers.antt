use Rattle.std.proofs.Common.{◌≡◌, ◌∙◌, ap₂, inl, inr, refl, sym}
use Rattle.std.proofs.lemmas.Bool.{false≢true}
use Rattle.std.proofs.lemmas.Result.{err_from_is_err_and, IfOk-weaker}
use Rattle.isl_meter.proofs.CutLemmas.{IsCharged_trans}
use Rattle.isl_space.specs.Names.{joined}
use Rattle.isl_space.proofs.NamesLaws.{joined-self}
use Rattle.isl_union.specs.KeptValue.{KeptValue, Has}
use Rattle.isl_relation.specs.Wide.{PairsTooWide}
use Rattle.isl_operators.specs.Formed.{PairsWide}
use Rattle.isl_operators.specs.Made.{HasMaps, HasSets}
use Rattle.isl_operators.specs.Pairing.{MapsForm, MapsHave, PairingForms, SetsForm, SetsHave}
use Rattle.isl_operators.proofs.FaultLaws.{form_fault_of, form_fault_when_wide, formed_same}
use Rattle.isl_operators.proofs.FaultLaws.{last_result, later_formed, within_before, within_later}
use Rattle.isl_operators.proofs.MadeLaws.{either_same, first_alone, second_alone}
use Rattle.isl_operators.proofs.PairingLaws.{no_maps_form, no_maps_have, no_sets_form, no_sets_have, wide_exactly}
use Rattle.isl_operators.proofs.WideLaws.{both_narrow, either_wide, pairs_wide}
use Rattle.isl_operators.proofs.pairing.paired.Goals as goal

-- ---- no sets meet sets
pub returns-then-not-have_sets-clause-elements : goal.returns-then-not-have_sets-clause-elements
returns-then-not-have_sets-clause-elements c = λ v e.
    let left = c.args.left.now in
    let right = c.args.right.now in
    let pairing = c.args.pairing in
    let never : ¬ (HasSets left × HasSets right) = λ both. false≢true (c.if-not-have_sets.ensures.1 both) in
    IfOk-weaker c.of_maps.result _ _
    (λ (value : KeptValue) has. second_alone (SetsHave pairing (Has left v) (Has right v) e) (MapsHave pairing (Has left v) (Has right v) e)
    (Has value v e) (no_sets_have pairing left right v e never) has) (c.of_maps.ensures.elements v e)

pub returns-then-not-have_sets-clause-units : goal.returns-then-not-have_sets-clause-units
returns-then-not-have_sets-clause-units c =
    let left = c.args.left.now in
    let right = c.args.right.now in
    let pairing = c.args.pairing in
    let never : ¬ (HasSets left × HasSets right) = λ both. false≢true (c.if-not-have_sets.ensures.1 both) in
    formed_same (joined left.params right.params) (PairsTooWide (MapsForm pairing) left right)
    (PairsWide (PairingForms pairing) (Has left) (Has right)) 0 c.args.meter.now c.of_maps.new.meter c.of_maps.result
    (λ wide. either_wide (SetsForm pairing) (MapsForm pairing) (Has left) (Has right)
    (inr (pairs_wide (MapsForm pairing) left right c.pieces-pieces.ensures.kept c.pieces-others.ensures.kept wide)))
    (both_narrow (SetsForm pairing) (MapsForm pairing) left right (no_sets_form pairing left right never))
    c.of_maps.ensures.units

-- ---- no maps meet maps
pub returns-then-not-have_maps-clause-elements : goal.returns-then-not-have_maps-clause-elements
returns-then-not-have_maps-clause-elements c = λ v e.
    let left = c.args.left.now in
    let right = c.args.right.now in
    let pairing = c.args.pairing in
    let never : ¬ (HasMaps left × HasMaps right) = λ both. false≢true (c.if-not-have_maps.ensures.1 both) in
    IfOk-weaker c.of_sets.result _ _
    (λ (value : KeptValue) has. first_alone (SetsHave pairing (Has left v) (Has right v) e) (MapsHave pairing (Has left v) (Has right v) e)
    (Has value v e) (no_maps_have pairing left right v e never) has) (c.of_sets.ensures.elements v e)

pub returns-then-not-have_maps-clause-units : goal.returns-then-not-have_maps-clause-units
returns-then-not-have_maps-clause-units c =
    let left = c.args.left.now in
    let right = c.args.right.now in
    let pairing = c.args.pairing in
    let never : ¬ (HasMaps left × HasMaps right) = λ both. false≢true (c.if-not-have_maps.ensures.1 both) in
    formed_same (joined left.params right.params) (PairsTooWide (SetsForm pairing) left right)
    (PairsWide (PairingForms pairing) (Has left) (Has right)) 0 c.args.meter.now c.of_sets.new.meter c.of_sets.result
    (λ wide. either_wide (SetsForm pairing) (MapsForm pairing) (Has left) (Has right)
    (inl (pairs_wide (SetsForm pairing) left right c.pieces-pieces.ensures.kept c.pieces-others.ensures.kept wide)))
    (λ narrow. both_narrow (SetsForm pairing) (MapsForm pairing) left right narrow (no_maps_form pairing left right never))
    c.of_sets.ensures.units

-- ---- both of both
pub have_wide_sets-requires-clause-pieces : goal.have_wide_sets-requires-clause-pieces
have_wide_sets-requires-clause-pieces c = λ k d l. (c.pieces-pieces.ensures.well_formed k d l).kept.space

pub have_wide_sets-requires-clause-others : goal.have_wide_sets-requires-clause-others
have_wide_sets-requires-clause-others c = λ k d l. (c.pieces-others.ensures.well_formed k d l).kept.space

pub returns-then-branch-clause-units : goal.returns-then-branch-clause-units
returns-then-branch-clause-units c =
    let left = c.args.left.now in
    let right = c.args.right.now in
    let pairing = c.args.pairing in
    let wide = (wide_exactly pairing left right c.pieces-pieces.result.now c.pieces-others.result.now c.pieces-pieces.ensures.content
    c.pieces-others.ensures.content).0 (c.in_ok-have_wide_sets.ensures.0 c.if-branch.true) in
    form_fault_when_wide (joined left.params right.params) (PairsWide (PairingForms pairing) (Has left) (Has right)) c.args.meter.now
    c.args.meter.now
    (either_wide (SetsForm pairing) (MapsForm pairing) (Has left) (Has right)
    (inl (pairs_wide (SetsForm pairing) left right c.pieces-pieces.ensures.kept c.pieces-others.ensures.kept wide))) refl

pub returns-in_err-maps-clause-units : goal.returns-in_err-maps-clause-units
returns-in_err-maps-clause-units c =
    let left = c.args.left.now in
    let right = c.args.right.now in
    let pairing = c.args.pairing in
    let One = SetsForm pairing in
    let Other = MapsForm pairing in
    let names = joined left.params right.params in
    let never : ¬ PairsTooWide One left right = λ wide. false≢true (sym c.if-branch.false ∙ c.in_ok-have_wide_sets.ensures.1
    ((wide_exactly pairing left right c.pieces-pieces.result.now c.pieces-others.result.now c.pieces-pieces.ensures.content
    c.pieces-others.ensures.content).1 wide)) in
    let wider = λ (wide : PairsTooWide Other left right).
    either_wide One Other (Has left) (Has right)
    (inr (pairs_wide Other left right c.pieces-pieces.ensures.kept c.pieces-others.ensures.kept wide)) in
    let fault = c.in_err-maps.field-0.0 in
    let p = err_from_is_err_and c.from_residual-in_err-maps.result c.from_residual-in_err-maps.ensures.1 in
    rw (p.1, p.2)
    (form_fault_of names names (PairsTooWide Other left right) (PairsWide (PairingForms pairing) (Has left) (Has right)) c.args.meter.now
    c.of_maps-2.new.meter fault refl wider (both_narrow One Other left right never) c.in_err-maps.ensures.units)

pub of_sets-requires-2-clause-left : goal.of_sets-requires-2-clause-left
of_sets-requires-2-clause-left c =
    within_later c.args.meter.now c.of_maps-2.new.meter c.args.left.now c.in_ok-maps.ensures.units.2.charged c.requires.left

pub of_sets-requires-2-clause-right : goal.of_sets-requires-2-clause-right
of_sets-requires-2-clause-right c =
    within_later c.args.meter.now c.of_maps-2.new.meter c.args.right.now c.in_ok-maps.ensures.units.2.charged c.requires.right

pub returns-in_err-sets-clause-units : goal.returns-in_err-sets-clause-units
returns-in_err-sets-clause-units c =
    let left = c.args.left.now in
    let right = c.args.right.now in
    let pairing = c.args.pairing in
    let One = SetsForm pairing in
    let Other = MapsForm pairing in
    let names = joined left.params right.params in
    let never : ¬ PairsTooWide One left right = λ wide. false≢true (sym c.if-branch.false ∙ c.in_ok-have_wide_sets.ensures.1
    ((wide_exactly pairing left right c.pieces-pieces.result.now c.pieces-others.result.now c.pieces-pieces.ensures.content
    c.pieces-others.ensures.content).1 wide)) in
    let made = c.in_ok-maps.ensures.units in
    let narrow = both_narrow One Other left right never made.1 in
    let fault = c.in_err-sets.field-0.0 in
    let p = err_from_is_err_and c.from_residual-in_err-sets.result c.from_residual-in_err-sets.ensures.1 in
    rw (p.1, p.2)
    (later_formed names (PairsWide (PairingForms pairing) (Has left) (Has right)) made.0 narrow c.args.meter.now c.of_maps-2.new.meter
    c.of_sets-2.new.meter made.2.charged (PairsTooWide One left right) never fault c.in_err-sets.ensures.units)

pub union-requires-clause-own : goal.union-requires-clause-own
union-requires-clause-own c =
    within_later c.of_maps-2.new.meter c.of_sets-2.new.meter c.in_ok-sets.sets c.in_ok-sets.ensures.units.2.charged
    c.in_ok-sets.ensures.numbers

pub union-requires-clause-other : goal.union-requires-clause-other
union-requires-clause-other c =
    let charged = IsCharged_trans c.args.meter.now c.of_maps-2.new.meter c.of_sets-2.new.meter c.in_ok-maps.ensures.units.2.charged
    c.in_ok-sets.ensures.units.2.charged in
    within_later c.args.meter.now c.of_sets-2.new.meter c.in_ok-maps.maps charged c.in_ok-maps.ensures.numbers

pub returns-clause-params : goal.returns-clause-params
returns-clause-params c =
    let names = joined c.args.left.now.params c.args.right.now.params in
    let same = ap₂ joined c.in_ok-sets.ensures.params c.in_ok-maps.ensures.params ∙ joined-self names in
    IfOk-weaker c.union.result (λ (value : KeptValue). value.params ≡ joined c.in_ok-sets.sets.params c.in_ok-maps.maps.params)
    (λ (value : KeptValue). value.params ≡ names) (λ value is. is ∙ same) c.union.ensures.params

pub returns-clause-elements : goal.returns-clause-elements
returns-clause-elements c = λ v e.
    let sets = c.in_ok-sets.ensures.elements v e in
    let maps = c.in_ok-maps.ensures.elements v e in
    IfOk-weaker c.union.result _ _ (λ value both. either_same _ _ _ _ _ sets maps both) (c.union.ensures.elements v e)

pub returns-clause-numbers : goal.returns-clause-numbers
returns-clause-numbers c =
    c.union.ensures.numbers _
    (within_before c.args.meter.now c.of_maps-2.new.meter c.in_ok-sets.sets c.in_ok-maps.ensures.units.2.charged
    c.in_ok-sets.ensures.numbers) c.in_ok-maps.ensures.numbers

pub returns-clause-units : goal.returns-clause-units
returns-clause-units c =
    let left = c.args.left.now in
    let right = c.args.right.now in
    let pairing = c.args.pairing in
    let One = SetsForm pairing in
    let Other = MapsForm pairing in
    let names = joined left.params right.params in
    let joint = joined c.in_ok-sets.sets.params c.in_ok-maps.maps.params in
    let same : joint ≡ names = ap₂ joined c.in_ok-sets.ensures.params c.in_ok-maps.ensures.params ∙ joined-self names in
    let never : ¬ PairsTooWide One left right = λ wide. false≢true (sym c.if-branch.false ∙ c.in_ok-have_wide_sets.ensures.1
    ((wide_exactly pairing left right c.pieces-pieces.result.now c.pieces-others.result.now c.pieces-pieces.ensures.content
    c.pieces-others.ensures.content).1 wide)) in
    let made = c.in_ok-maps.ensures.units in
    let narrow = both_narrow One Other left right never made.1 in
    let charged = IsCharged_trans c.args.meter.now c.of_maps-2.new.meter c.of_sets-2.new.meter made.2.charged
    c.in_ok-sets.ensures.units.2.charged in
    last_result names (PairsWide (PairingForms pairing) (Has left) (Has right)) made.0 narrow c.args.meter.now c.of_sets-2.new.meter
    c.union.new.meter charged joint _ c.union.result same c.union.ensures.meter c.union.ensures.faults
