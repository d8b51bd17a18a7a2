-- What a call says of an operator, a word or an application, where it is that one.
use Rattle.std.proofs.Common.{◌≡◌, ◌↔◌, ◌⊎◌, inl, inr, sym, subst, List, []}
use Rattle.std.specs.Prelude.{Result, Ok, Err, IfOk, MatchResult}
use Rattle.isl_meter.specs.Gauge.{Gauge}
use Rattle.isl_space.specs.Element.{Element}
use Rattle.isl_space.specs.Name.{Name}
use Rattle.isl_space.specs.Names.{joined}
use Rattle.isl_space.specs.Valuation.{Valuation}
use Rattle.isl_union.specs.KeptValue.{KeptValue, Has}
use Rattle.isl_union.specs.Meet.{IsMeetOf}
use Rattle.isl_union.specs.declared.fault.OpFault.{OpFault}
use Rattle.isl_tree.specs.declared.statement.Binary.{Binary}
use Rattle.isl_tree.specs.declared.statement.Binary.TheVariants as b
use Rattle.isl_tree.specs.declared.statement.Prefix.{Prefix}
use Rattle.isl_operators.specs.Operations.{OperatorHas, WordHas}
use Rattle.isl_operators.specs.Formed.{FormsWide, OperatorForms, PairsWide, WordForms}
use Rattle.isl_operators.specs.Made.{HasMaps, HasSets, IsIntersectionOf, IsOperatorOf, IsOver, IsPaid, IsWhyNone, IsWordOf}
use Rattle.isl_operators.specs.Made.{operator_works, word_works}

-- ---- one result
-- of one value of an answer
pub over_of : {A : Type 0} (of : A → KeptValue) (names : List Name) (Elements : Valuation → Element → Type 0) (r : Result A OpFault)
    → IfOk r (λ a. (of a).params ≡ names)
    → ((valuation : Valuation) (element : Element) → IfOk r (λ a. Has (of a) valuation element ↔ Elements valuation element))
    → IfOk r (λ a. IsOver names Elements (of a))
over_of of names Elements (Ok a) params elements = record { params = params; elements = elements }
over_of of names Elements (Err fault) params elements = tt

pub over : (names : List Name) (Elements : Valuation → Element → Type 0) (r : Result KeptValue OpFault)
    → IfOk r (λ value. value.params ≡ names)
    → ((valuation : Valuation) (element : Element) → IfOk r (λ value. Has value valuation element ↔ Elements valuation element))
    → IfOk r (IsOver names Elements)
over names Elements r params elements = over_of (λ (value : KeptValue). value) names Elements r params elements

pub intersection_of : (left right : KeptValue) (r : Result KeptValue OpFault)
    → IfOk r (λ value. value.params ≡ joined left.params right.params)
    → ((valuation : Valuation) (element : Element)
    → IfOk r (λ value. Has value valuation element ↔ OperatorHas b.Intersection (Has left valuation) (Has right valuation) element))
    → (¬ (HasMaps left × HasSets right) → IfOk r (IsMeetOf left right)) → IfOk r (IsIntersectionOf left right)
intersection_of left right (Ok value) params elements pieces = record {
  any = record { params = params; elements = elements };
  pieces = pieces;
}
intersection_of left right (Err fault) params elements pieces = tt

-- of one or the other, where the other is never
pub first_alone : (A B Has : Type 0) → ¬ B → Has ↔ A → Has ↔ (A ⊎ B)
first_alone A B Has never one = ((λ has. inl (one.0 has)), (λ either. elim either [ inl a ↦ one.1 a | inr b ↦ absurd (never b) ]))

pub second_alone : (A B Has : Type 0) → ¬ A → Has ↔ B → Has ↔ (A ⊎ B)
second_alone A B Has never one = ((λ has. inr (one.0 has)), (λ either. elim either [ inl a ↦ absurd (never a) | inr b ↦ one.1 b ]))

-- one or the other of what is the same
pub either_same : (A B C D Has : Type 0) → A ↔ C → B ↔ D → Has ↔ (A ⊎ B) → Has ↔ (C ⊎ D)
either_same A B C D Has one other either = (
  (λ has. elim (either.0 has) [ inl a ↦ inl (one.0 a) | inr b ↦ inr (other.0 b) ]),
  (λ both. elim both [ inl c ↦ either.1 (inl (one.1 c)) | inr d ↦ either.1 (inr (other.1 d)) ]),
)

-- what is so whatever the value
pub always : {A E : Type 0} (r : Result A E) (P : Type 0) → P → IfOk r (λ _. P)
always (Ok value) P holds = holds
always (Err fault) P holds = tt

pub formed_narrow : {A E : Type 0} (r : Result A E) (Few Forms Charged Wide : Type 0) (Q : E → Type 0) → (¬ Forms → ¬ Wide)
    → MatchResult r (λ _. Few × (¬ Forms) × Charged) Q → IfOk r (λ _. ¬ Wide)
formed_narrow (Ok value) Few Forms Charged Wide Q narrow done = narrow done.1
formed_narrow (Err fault) Few Forms Charged Wide Q narrow done = tt

-- ---- words
module _ (operand : KeptValue) (g h : Gauge) (r : Result KeptValue OpFault) where
  abbrev WordSays : Prefix → Type 0
  WordSays word =
      IfOk r (IsWordOf word operand)
      × ((valuation : Valuation) (element : Element)
      → IfOk r (λ value. Has value valuation element ↔ WordHas word operand.params (Has operand) valuation element))
      × IfOk r (λ _. ¬ FormsWide (WordForms word) (Has operand))
      × MatchResult r (λ _. IsPaid (word_works word) g h)
      (IsWhyNone [] (FormsWide (WordForms word) (Has operand)) (word_works word) g h)

  -- what is said of one word is said of the word that is that one
  pub word_says : (word one : Prefix) → word ≡ one → WordSays one → WordSays word
  word_says word one is says = subst WordSays (sym is) says

-- ---- operators
module _ (left right : KeptValue) (g h : Gauge) (r : Result KeptValue OpFault) where
  abbrev OperatorSays : Binary → Type 0
  OperatorSays operator =
      IfOk r (IsOperatorOf operator left right)
      × ((valuation : Valuation) (element : Element)
      → IfOk r (λ value. Has value valuation element ↔ OperatorHas operator (Has left valuation) (Has right valuation) element))
      × IfOk r (λ _. ¬ PairsWide (OperatorForms operator) (Has left) (Has right))
      × MatchResult r (λ _. IsPaid (operator_works operator) g h)
      (IsWhyNone (joined left.params right.params) (PairsWide (OperatorForms operator) (Has left) (Has right)) (operator_works operator)
      g h)

  pub operator_says : (operator one : Binary) → operator ≡ one → OperatorSays one → OperatorSays operator
  operator_says operator one is says = subst OperatorSays (sym is) says
