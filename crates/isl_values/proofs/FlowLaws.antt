-- The two values of a flow, and the list of them.
use Rattle.std.proofs.Common.{◌≡◌, ◌∙◌, ℕ, List, ap, ap₂, sym}
use Rattle.std.specs.Prelude.{Result, Ok, Err, IfOk, MatchResult}
use Rattle.isl_space.specs.Name.{Name}
use Rattle.isl_space.specs.Valuation.{Valuation}
use Rattle.isl_space.specs.Element.{Element}
use Rattle.isl_union.specs.KeptValue.{KeptValue, HasNoDefinitions, IsKeptValue}
use Rattle.isl_union.specs.declared.fault.OpFault.{OpFault}
use Rattle.isl_flow.specs.declared.sources.Flow.{Flow}
use Rattle.isl_refusal.specs.declared.refusal.Refusal.{Refusal}
use Rattle.isl_refusal.specs.declared.refusal.Refusal.TheVariants.{NoMemory}
use Rattle.isl_operators.specs.Made.{IsOver}
use Rattle.isl_state.specs.declared.list.ListValue.{ListValue}
use Rattle.isl_state.specs.State.{HasNumbersUpTo}
use Rattle.isl_values.specs.Made.{refusal_of_fault, IsMadeOf}
use Rattle.isl_values.specs.Three.{AreOfFlow}
use Rattle.isl_values.proofs.OutcomeLaws.{IsAnswer}

-- the flow that the values of a list are
abbrev pub flow_of_list : ListValue → Flow
flow_of_list list = record { last = list.first.value; unsourced = list.second.value }

abbrev flow_with : KeptValue → KeptValue → Flow
flow_with last unsourced = record { last = last; unsourced = unsourced }

flow_is : (flow : Flow) (list : ListValue) → AreOfFlow list flow → flow ≡ flow_of_list list
flow_is flow list are = ap₂ flow_with (sym are.0) (sym are.1)

abbrev made : Flow → Result Flow OpFault
made flow = Ok flow

-- such a list is what is answered for its flow
pub listed_answer : (outcome : Result Flow OpFault) (answer : Result ListValue Refusal)
    → MatchResult answer (λ list. MatchResult outcome (AreOfFlow list) (λ _. ⊥))
    (λ refusal. MatchResult outcome (λ _. refusal ≡ NoMemory) (λ fault. refusal ≡ refusal_of_fault fault))
    → IsAnswer refusal_of_fault flow_of_list outcome answer
listed_answer (Ok flow) (Ok list) are = ap made (flow_is flow list are)
listed_answer (Err fault) (Ok list) none = absurd none
listed_answer outcome (Err refusal) why = why

-- both values over the same parameters
pub flow_values : (outcome : Result Flow OpFault) (own names : List Name) (Last Unsourced : Valuation → Element → Type 0) (limit : ℕ)
    (Plain : Type 0) → own ≡ names → IfOk outcome (λ flow. IsOver own Last flow.last)
    → IfOk outcome (λ flow. IsOver own Unsourced flow.unsourced)
    → IfOk outcome (λ flow. IsKeptValue flow.last) → IfOk outcome (λ flow. IsKeptValue flow.unsourced)
    → (Plain → IfOk outcome (λ flow. HasNoDefinitions flow.last × HasNoDefinitions flow.unsourced))
    → IfOk outcome (λ flow. HasNumbersUpTo limit flow.last × HasNumbersUpTo limit flow.unsourced)
    → IfOk outcome (λ flow. IsMadeOf (IsOver own Last) names Last limit Plain flow.last
    × IsMadeOf (IsOver own Unsourced) names Unsourced limit Plain flow.unsourced)
flow_values (Ok flow) own names Last Unsourced limit Plain same last unsourced kept other plain small = (
  record {
    written = last;
    kept = kept;
    params = last.params ∙ same;
    elements = last.elements;
    numbers = small.0;
    definitions = λ p. (plain p).0;
  },
  record {
    written = unsourced;
    kept = other;
    params = unsourced.params ∙ same;
    elements = unsourced.elements;
    numbers = small.1;
    definitions = λ p. (plain p).1;
  },
)
flow_values (Err fault) own names Last Unsourced limit Plain same last unsourced kept other plain small = tt
