use Rattle.std.proofs.Common.{◌∙◌, List, All, Contains, ap, ap₂, subst, sym}
use Rattle.std.specs.Prelude.{unsigned_abs}
use Rattle.isl_meter.specs.Gauge.{limit_of}
use Rattle.isl_space.specs.Name.{Name}
use Rattle.isl_space.specs.Names.{IsParameterList, joined}
use Rattle.isl_union.specs.KeptValue.{KeptValue}
use Rattle.isl_union.proofs.ValueLaws.{first_in}
use Rattle.isl_kinds.specs.Typed.{joined_names}
use Rattle.isl_values.specs.Live.{narrows}
use Rattle.isl_state.specs.State.{HasNumbersUpTo}
use Rattle.isl_values.proofs.OutcomeLaws.{both_names}
use Rattle.isl_values.proofs.UnderLaws.{joined_answer}
use Rattle.isl_values.proofs.operands.left_under.Goals as goal

pub under_joined-requires-clause-numbers : goal.under_joined-requires-clause-numbers
under_joined-requires-clause-numbers c =
    subst (HasNumbersUpTo (unsigned_abs (limit_of c.args.meter.now))) (sym c.deref-in-Where.ensures) c.requires.numbers

pub under_joined-requires-clause-declared : goal.under_joined-requires-clause-declared
under_joined-requires-clause-declared c =
    let same = c.params.ensures.content ∙ ap (λ (u : KeptValue). u.params) (c.deref.ensures ∙ sym c.deref-in-Where.ensures) in
    subst (λ (ns : List Name). All (Contains (joined c.params.result.now c.params-in-Where.result.now)) ns) same
    (first_in c.params.result.now c.params-in-Where.result.now)

pub returns-in-Where : goal.returns-in-Where
returns-in-Where c =
    let left = c.args.left.value in
    let right = c.args.right.now in
    let names =
    ap₂ joined (c.params.ensures.content ∙ ap (λ (u : KeptValue). u.params) c.deref.ensures) c.params-in-Where.ensures.content
    ∙ both_names left right (subst IsParameterList c.params-in-Where.ensures.content c.params-in-Where.ensures.well_formed).distinct in
    joined_answer (λ v. v.value) c.args.state.now c.assumed-in-Where.result.now c.args.meter.now c.under_joined.new.meter c.args.left.value
    c.deref-in-Where.result.now c.assumed-in-Where.ensures c.deref-in-Where.ensures (ap narrows (sym c.assumed.ensures ∙ c.in-Where.is))
    (joined c.params.result.now c.params-in-Where.result.now) (joined_names left.params right.params) names c.under_joined.result
    c.answered.result c.answered.ensures c.under_joined.ensures.under c.under_joined.ensures.meter
