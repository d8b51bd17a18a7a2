-- What operations make of values, shared, and what refuses them where they make none.
use Rattle.std.proofs.Common.{◌≡◌, ◌∙◌, ◌↔◌, ◌⊎◌, inl, inr, ℕ, Bool, List, [], length, ap, subst, arith}
use Rattle.std.specs.Prelude.{Result, Ok, Err, IfErr, IfOk, MatchResult}
use Rattle.isl_meter.specs.Gauge.{Gauge}
use Rattle.isl_meter.specs.declared.Cut.{Cut}
use Rattle.isl_meter.specs.declared.Cut.TheVariants as cuts
use Rattle.isl_space.specs.Name.{Name}
use Rattle.isl_space.specs.Names.{AreDistinct, joined}
use Rattle.isl_space.specs.Valuation.{Valuation}
use Rattle.isl_space.specs.Element.{Element}
use Rattle.isl_union.specs.KeptValue.{KeptValue, Has, HasNoDefinitions, IsKeptValue}
use Rattle.isl_union.specs.declared.fault.OpFault.{OpFault}
use Rattle.isl_union.specs.declared.fault.OpFault.TheVariants as op_fault
use Rattle.isl_refusal.specs.declared.refusal.Refusal.{Refusal}
use Rattle.isl_refusal.specs.declared.refusal.Refusal.TheVariants.{NoMemory}
use Rattle.isl_operators.specs.declared.fault.WordFault.{WordFault}
use Rattle.isl_operators.specs.declared.fault.WordFault.TheVariants as word_fault
use Rattle.isl_operators.specs.Made.{IsWhyNone, IsWhyNoWord}
use Rattle.isl_kinds.specs.Typed.{joined_names}
use Rattle.isl_kinds.proofs.JoinedNamesLaws.{joined_is}
use Rattle.isl_state.specs.State.{HasNumbersUpTo}
use Rattle.isl_values.specs.Ends.{cut, too_wide, no_minimum}
use Rattle.isl_values.specs.Ends.{End, GoesOn, OperationEnds}
use Rattle.isl_values.specs.Made.{refusal_of_fault, refusal_of_word_fault, IsMadeOf, IsPaid, IsWhyUnworked}
use Rattle.isl_values.proofs.ValueLaws.{paid_same, unmade_memory}
pub use Rattle.isl_outcome.proofs.FirstLaws.{operation_goes}

-- ---- the value of an outcome
module _ {F : Type 0} where
  pub outcome_value : (outcome : Result KeptValue F) (Exact : KeptValue → Type 0) (own names : List Name)
      (Holds : Valuation → Element → Type 0) (limit : ℕ) (Plain : Type 0) → own ≡ names
      → IfOk outcome Exact → IfOk outcome IsKeptValue → IfOk outcome (λ value. value.params ≡ own)
      → ((v : Valuation) (x : Element) → IfOk outcome (λ value. Has value v x ↔ Holds v x))
      → (Plain → IfOk outcome HasNoDefinitions) → IfOk outcome (HasNumbersUpTo limit)
      → IfOk outcome (IsMadeOf Exact names Holds limit Plain)
  outcome_value (Ok made) Exact own names Holds limit Plain same written kept params elements plain small =
      record { written = written; kept = kept; params = params ∙ same; elements = elements; numbers = small; definitions = plain }
  outcome_value (Err fault) Exact own names Holds limit Plain same written kept params elements plain small = tt

  -- ---- what is answered for an outcome
  -- an answer is the outcome's value, shared, or its values; memory may end
  abbrev pub IsAnswer : {A B : Type 0} → (F → Refusal) → (A → B) → Result B F → Result A Refusal → Type 0
  IsAnswer refuses of outcome answer =
      MatchResult answer (λ a. outcome ≡ Ok (of a))
      (λ refusal. MatchResult outcome (λ _. refusal ≡ NoMemory) (λ fault. refusal ≡ refuses fault))

  pub answered_ok : {A B : Type 0} (refuses : F → Refusal) (of : A → B) (outcome : Result B F) (answer : Result A Refusal)
      (Good : B → Type 0) → IsAnswer refuses of outcome answer → IfOk outcome Good → IfOk answer (λ a. Good (of a))
  answered_ok {A} {B} refuses of outcome (Ok a) Good is good = subst (λ (o : Result B F). IfOk o Good) is good
  answered_ok refuses of outcome (Err refusal) Good is good = tt

  -- units alone were used where there is an answer; and where there is none a fault says why
  module _ (refuses : F → Refusal) (works : Bool) (Fails : F → Type 0) (Why : End → Type 0) (g h : Gauge)
      (faulted : (fault : F) (refusal : Refusal) → refusal ≡ refuses fault → Fails fault → IsWhyUnworked works Why g h refusal) where
    refused : {B : Type 0} (outcome : Result B F) (refusal : Refusal)
        → MatchResult outcome (λ _. refusal ≡ NoMemory) (λ fault. refusal ≡ refuses fault)
        → MatchResult outcome (λ _. IsPaid works g h) Fails → IsWhyUnworked works Why g h refusal
    refused (Ok made) refusal is paid = inl (unmade_memory works Why g h refusal is paid)
    refused (Err fault) refusal is why = faulted fault refusal is why

    pub answered_made : {A B : Type 0} (of : A → B) (outcome : Result B F) (answer : Result A Refusal) (Good : B → Type 0)
        → IsAnswer refuses of outcome answer → IfOk outcome Good → MatchResult outcome (λ _. IsPaid works g h) Fails
        → MatchResult answer (λ a. Good (of a) × IsPaid works g h) (IsWhyUnworked works Why g h)
    answered_made {A} {B} of outcome (Ok a) Good is good units = (
      answered_ok refuses of outcome (Ok a) Good is good,
      subst (λ (o : Result B F). MatchResult o (λ _. IsPaid works g h) Fails) is units,
    )
    answered_made of outcome (Err refusal) Good is good units = refused outcome refusal is units

-- where an outcome can only lack memory
pub answered_memory : {A : Type 0} (of : A → KeptValue) (outcome : Result KeptValue OpFault) (answer : Result A Refusal)
    → IsAnswer refusal_of_fault of outcome answer → IfErr outcome (λ fault. fault ≡ op_fault.Cut cuts.NoMemory)
    → IfErr answer (λ refusal. refusal ≡ NoMemory)
answered_memory of outcome (Ok a) is memory = tt
answered_memory of (Ok made) (Err refusal) is memory = is
answered_memory of (Err fault) (Err refusal) is memory = is ∙ ap refusal_of_fault memory

-- ---- the parameters of two values
module _ (left right : KeptValue) (distinct : AreDistinct right.params) where
  pub both_names : joined left.params right.params ≡ joined_names left.params right.params
  both_names = joined_is left.params right.params distinct

-- ---- what ends an operation
-- a cut came where memory ended, or where the operation's work is reached
reached : {Reached : Type 0} (reason : Cut) → Reached ⊎ (reason ≡ cuts.NoMemory) → (reason ≡ cuts.NoMemory) ⊎ Reached
reached reason (inl there) = inr there
reached reason (inr memory) = inl memory

module _ (works : Bool) (Wide : Type 0) (g h : Gauge) where
  pub fault_ends : (own names : List Name) → own ≡ names → (fault : OpFault) (refusal : Refusal) → refusal ≡ refusal_of_fault fault
      → IsWhyNone own Wide works g h fault → IsWhyUnworked works (OperationEnds names Wide ⊥) g h refusal
  fault_ends own names same op_fault.TooWide refusal is why =
      subst (λ (ns : List Name). IsWhyUnworked works (OperationEnds ns Wide ⊥) g h refusal) same
      (inr (too_wide, is, why.0, paid_same works g h why.1))
  fault_ends own names same (op_fault.Cut reason) refusal is why =
      subst (λ (ns : List Name). IsWhyUnworked works (OperationEnds ns Wide ⊥) g h refusal) same
      (inl (record { cut = reason; is = is; by = why.0.1; there = reached reason why.0.0; free = why.1 }))

  pub word_fault_ends : (Misses : Type 0) (fault : WordFault) (refusal : Refusal) → refusal ≡ refusal_of_word_fault fault
      → IsWhyNoWord Wide Misses works g h fault → IsWhyUnworked works (OperationEnds [] Wide Misses) g h refusal
  word_fault_ends Misses word_fault.TooWide refusal is why = inr (too_wide, is, inr (omega arith, why.0), paid_same works g h why.1)
  word_fault_ends Misses word_fault.NoMinimum refusal is why = inr (no_minimum, is, (omega arith, why.0, why.1), why.2)
  word_fault_ends Misses (word_fault.Cut reason) refusal is why =
      inl (record { cut = reason; is = is; by = why.1; there = narrow reason (reached reason why.0); free = why.2 })
    where
      narrow : (reason : Cut) → (reason ≡ cuts.NoMemory) ⊎ (¬ Wide) → (reason ≡ cuts.NoMemory) ⊎ OperationEnds [] Wide Misses cut
      narrow reason (inl memory) = inl memory
      narrow reason (inr there) = inr (omega arith, there)

-- where it makes a value, or more of which this is one, it does not end
pub outcome_goes_of : {A F : Type 0} (of : A → KeptValue) (outcome : Result A F) (own names : List Name) (Wide : Type 0) → own ≡ names
    → IfOk outcome (λ a. IsKeptValue (of a)) → IfOk outcome (λ a. (of a).params ≡ own) → IfOk outcome (λ _. ¬ Wide)
    → IfOk outcome (λ _. GoesOn (OperationEnds names Wide ⊥))
outcome_goes_of of (Ok made) own names Wide same kept params narrow =
    let few = kept.params.few in
    let long = ap length (params ∙ same) in
    operation_goes names Wide ⊥ (omega (arith, few, long)) narrow (λ no. no)
outcome_goes_of of (Err fault) own names Wide same kept params narrow = tt

pub outcome_goes : {F : Type 0} (outcome : Result KeptValue F) (own names : List Name) (Wide : Type 0) → own ≡ names
    → IfOk outcome IsKeptValue → IfOk outcome (λ value. value.params ≡ own) → IfOk outcome (λ _. ¬ Wide)
    → IfOk outcome (λ _. GoesOn (OperationEnds names Wide ⊥))
outcome_goes outcome own names Wide same kept params narrow =
    outcome_goes_of (λ (value : KeptValue). value) outcome own names Wide same kept params narrow

pub word_goes : {F : Type 0} (outcome : Result KeptValue F) (Wide Misses : Type 0) → IfOk outcome (λ _. ¬ Wide)
    → IfOk outcome (λ _. ¬ Misses)
    → IfOk outcome (λ _. GoesOn (OperationEnds [] Wide Misses))
word_goes (Ok made) Wide Misses narrow found = operation_goes [] Wide Misses (omega arith) narrow found
word_goes (Err fault) Wide Misses narrow found = tt
