use Rattle.std.proofs.Common.{◌≡◌, ◌↔◌, subst, sym}
use Rattle.std.proofs.lemmas.Result.{IfOk-weaker}
use Rattle.isl_union.specs.KeptValue.{KeptValue, Has}
use Rattle.isl_assumed.specs.declared.assumed.Assumed.{Assumed}
use Rattle.isl_assumed.specs.Assumed as assumed
use Rattle.isl_coalesce.specs.Coalesced.{IsCoalesced}
use Rattle.isl_operators.specs.Made.{IsCoalescedFlat}
use Rattle.isl_operators.proofs.FaultLaws.{within_later}
use Rattle.isl_operators.proofs.words.put_together.Goals as goal

pub coalesce-requires-clause-within : goal.coalesce-requires-clause-within
coalesce-requires-clause-within c =
    within_later c.args.meter.now c.flat.new.meter c.in_ok-flat.flat c.in_ok-flat.ensures.meter c.in_ok-flat.ensures.numbers

pub coalesce-requires-clause-assumed : goal.coalesce-requires-clause-assumed
coalesce-requires-clause-assumed c = subst (λ (a : Assumed). assumed.IsSound c.flat.new.meter a) (sym c.all.ensures) tt

pub coalesce-requires-clause-assumed_plain : goal.coalesce-requires-clause-assumed_plain
coalesce-requires-clause-assumed_plain c = subst (λ (a : Assumed). assumed.IsPlain a) (sym c.all.ensures) tt

pub returns-clause-elements : goal.returns-clause-elements
returns-clause-elements c = λ v e.
    let flat = c.in_ok-flat.ensures.elements v e in
    let it = subst (λ (a : Assumed). assumed.Assumes a v) (sym c.all.ensures) tt in
    IfOk-weaker c.coalesce.result (λ (value : KeptValue). Has value v e ↔ Has c.in_ok-flat.flat v e)
    (λ (value : KeptValue). Has value v e ↔ Has c.args.operand.now v e)
    (λ value same. ((λ has. flat.0 (same.0 has)), (λ has. same.1 (flat.1 has)))) (c.coalesce.ensures.elements v e it)

pub returns-clause-coalesced : goal.returns-clause-coalesced
returns-clause-coalesced c =
    let e = c.in_ok-flat.ensures in
    IfOk-weaker c.coalesce.result (IsCoalesced c.in_ok-flat.flat) (IsCoalescedFlat c.args.operand.now)
    (λ (value : KeptValue) coalesced. (
      c.in_ok-flat.flat,
      e.pieces,
      coalesced,
    )) (c.coalesce.ensures.all c.all.ensures)
