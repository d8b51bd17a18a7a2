use Rattle.std.proofs.Common.{ap, refl}
use Rattle.isl_union.specs.KeptValue.{KeptValue}
use Rattle.isl_values.specs.Made.{refusal_of_fault}
use Rattle.isl_values.proofs.OutcomeLaws.{answered_memory, answered_ok, outcome_value}
use Rattle.isl_values.proofs.ValueLaws.{ok_map}
use Rattle.isl_values.proofs.postfixes.turned.Goals as goal

pub returns-clause-made : goal.returns-clause-made
returns-clause-made c =
    let e = c.inverse.ensures in
    let params = ok_map c.inverse.result _ _ (λ made is. ap (λ (v : KeptValue). v.params) is) e.written in
    answered_ok refusal_of_fault _ c.inverse.result c.answered.result _ c.answered.ensures
    (outcome_value c.inverse.result _ _ _ _ _ _ refl e.written e.kept params e.elements e.definitions
    (e.numbers _ c.requires.numbers))

pub returns-clause-faults : goal.returns-clause-faults
returns-clause-faults c = answered_memory _ c.inverse.result c.answered.result c.answered.ensures c.inverse.ensures.faults
