use Rattle.std.proofs.Common.{◌↔◌, ◌≡◌, ◌≤◌, List, length, refl, subst}
use Rattle.std.proofs.lemmas.Result.{IfOk-weaker}
use Rattle.isl_space.specs.Name.{Name}
use Rattle.isl_space.specs.Valuation.{Valuation}
use Rattle.isl_union.specs.KeptValue.{KeptValue, Has, HasNoDefinitions, IsKeptValue}
use Rattle.isl_union.specs.Numbers.{IsWithinLimit}
use Rattle.isl_assumed.specs.declared.assumed.Assumed.{Assumed}
use Rattle.isl_assumed.specs.Assumed.{Assumes, AssumesSome}
use Rattle.isl_coalesce.specs.Coalesced.{IsCoalesced, IsCoalescedUnder}
use Rattle.isl_coalesce.specs.Found.{IsGathered, IsKnownFor}
use Rattle.isl_coalesce.proofs.KnownLaws.{names_later}
use Rattle.isl_coalesce.proofs.OtherLaws.{coalesced_assumed, coalesced_of_all}
use Rattle.isl_coalesce.proofs.ValueLaws.{gathered_before, within_later}
use Rattle.isl_coalesce.proofs.together.coalesce.Goals as goal

pub gathered-requires-clause-within : goal.gathered-requires-clause-within
gathered-requires-clause-within c =
    within_later c.args.meter.now c.onto.new.meter c.args.a.now c.in_ok-known.ensures.meter c.requires.within

pub gathered-requires-clause-known : goal.gathered-requires-clause-known
gathered-requires-clause-known c =
    let e = c.in_ok-known.ensures in
    let params = c.params.result.now in
    let known = c.in_ok-known.known in
    subst (λ (names : List Name). IsKnownFor c.onto.new.meter names known) c.params.ensures.content
    (names_later c.args.meter.now c.onto.new.meter params known e.meter
    (record { sound = e.sound; plain = e.plain c.requires.assumed_plain; over = e.names }))

pub returns-clause-kept : goal.returns-clause-kept
returns-clause-kept c =
    let h = c.onto.new.meter in
    let P = Assumes c.in_ok-known.known in
    let a = c.args.a.now in
    IfOk-weaker c.gathered.result (IsGathered h P a) IsKeptValue
    (λ (value : KeptValue) is. is.kept) c.gathered.ensures.gathered

pub returns-clause-params : goal.returns-clause-params
returns-clause-params c =
    let h = c.onto.new.meter in
    let P = Assumes c.in_ok-known.known in
    let a = c.args.a.now in
    IfOk-weaker c.gathered.result (IsGathered h P a) (λ value. value.params ≡ a.params)
    (λ (value : KeptValue) is. is.coalesced.params) c.gathered.ensures.gathered

pub returns-clause-coalesced : goal.returns-clause-coalesced
returns-clause-coalesced c =
    let h = c.onto.new.meter in
    let P = Assumes c.in_ok-known.known in
    let a = c.args.a.now in
    let same = subst (λ (names : List Name). (v : Valuation) → Assumes c.in_ok-known.known v ↔ AssumesSome c.args.assumed.now names v)
    c.params.ensures.content c.in_ok-known.ensures.valuations in
    IfOk-weaker c.gathered.result (IsGathered h P a) (IsCoalescedUnder c.args.assumed.now a)
    (λ (value : KeptValue) is. coalesced_assumed c.args.assumed.now c.in_ok-known.known a value same is.coalesced)
    c.gathered.ensures.gathered

pub returns-clause-all : goal.returns-clause-all
returns-clause-all c none =
    let h = c.onto.new.meter in
    let P = Assumes c.in_ok-known.known in
    let a = c.args.a.now in
    let same = subst (λ (names : List Name). (v : Valuation) → Assumes c.in_ok-known.known v ↔ AssumesSome c.args.assumed.now names v)
    c.params.ensures.content c.in_ok-known.ensures.valuations in
    IfOk-weaker c.gathered.result (IsGathered h P a) (IsCoalesced a)
    (λ (value : KeptValue) is.
    coalesced_of_all a value is.kept (subst (λ (x : Assumed). IsCoalescedUnder x a value) none
    (coalesced_assumed c.args.assumed.now c.in_ok-known.known a value same is.coalesced))) c.gathered.ensures.gathered

pub returns-clause-elements : goal.returns-clause-elements
returns-clause-elements c v e it =
    let h = c.onto.new.meter in
    let P = Assumes c.in_ok-known.known in
    let a = c.args.a.now in
    let same = subst (λ (names : List Name). (v : Valuation) → Assumes c.in_ok-known.known v ↔ AssumesSome c.args.assumed.now names v)
    c.params.ensures.content c.in_ok-known.ensures.valuations in
    IfOk-weaker c.gathered.result (IsGathered h P a) (λ value. Has value v e ↔ Has a v e)
    (λ (value : KeptValue) is. is.elements v e ((same v).1 (v, refl, it))) c.gathered.ensures.gathered

pub returns-clause-definitions : goal.returns-clause-definitions
returns-clause-definitions c =
    let h = c.onto.new.meter in
    let P = Assumes c.in_ok-known.known in
    let a = c.args.a.now in
    IfOk-weaker c.gathered.result (IsGathered h P a) HasNoDefinitions
    (λ (value : KeptValue) is. is.definitions) c.gathered.ensures.gathered

pub returns-clause-numbers : goal.returns-clause-numbers
returns-clause-numbers c =
    let h = c.onto.new.meter in
    let P = Assumes c.in_ok-known.known in
    let a = c.args.a.now in
    let g = c.args.meter.now in
    IfOk-weaker c.gathered.result (IsGathered h P a) (IsWithinLimit g)
    (λ (value : KeptValue) is. (gathered_before g h P a value c.in_ok-known.ensures.meter is).numbers) c.gathered.ensures.gathered

pub returns-clause-few : goal.returns-clause-few
returns-clause-few c =
    let h = c.onto.new.meter in
    let P = Assumes c.in_ok-known.known in
    let a = c.args.a.now in
    IfOk-weaker c.gathered.result (IsGathered h P a) (λ value. length value.pieces ≤ length a.pieces)
    (λ (value : KeptValue) is. is.few) c.gathered.ensures.gathered
