-- inner: what is worked out of source, sink and schedule, and of both parts of a list.
use Rattle.std.specs.Prelude.{◌≡◌, ◌↔◌, ℕ, false, List}
use Rattle.std.specs.List.{list_any}
use Rattle.isl_space.specs.Element.{Element}
use Rattle.isl_space.specs.Name.{Name}
use Rattle.isl_space.specs.Valuation.{Valuation}
use Rattle.isl_union.specs.KeptValue.{KeptValue, Has, HasNoDefinitions, IsKeptValue}
use Rattle.isl_union.specs.Flat.{IsFlatOf}
use Rattle.isl_assumed.specs.declared.assumed.Assumed.{Assumed}
use Rattle.isl_assumed.specs.Assumed.{Assumes}
use Rattle.isl_flow.specs.declared.sources.Flow.{Flow}
use Rattle.isl_tree.specs.declared.statement.Prefix.{Prefix}
use Rattle.isl_tree.specs.declared.statement.Expr.{Expr}
use Rattle.isl_kinds.specs.Parts.{parts_of}
use Rattle.isl_kinds.specs.Typed.{declared_of, joined_names}
use Rattle.isl_operators.specs.Made.{IsDependenceOf}
use Rattle.isl_values.specs.declared.dependence.Accesses.{Accesses}
use Rattle.isl_state.specs.declared.list.ListPart.{ListPart}
use Rattle.isl_state.specs.declared.list.ListPart.TheVariants.{First, Second}
use Rattle.isl_state.specs.declared.list.ListValue.{ListValue}
use Rattle.isl_values.specs.Live.{IsLiveOf, IsLiveUnder}
use Rattle.isl_state.specs.State.{AtAssumed, Kept, StateView, scope_of, value_at, HasNumbersUpTo}
use Rattle.isl_values.specs.Worked.{looks, Dependence, IsAskedOf, IsWorkedAt, IsWrittenAt, PartHas}
use Rattle.isl_values.specs.Selection.{SelectsAt}
use Rattle.isl_values.specs.Ends.{End, DependenceEnds, Ends, FirstEnds}
use Rattle.isl_values.specs.Made.{uses_units, IsMadeOf, IsValueOf}

-- nothing in the expression uses units
abbrev pub NothingWorks : StateView → Expr → Type 0
NothingWorks state expr = list_any (uses_units state.assumed) (parts_of expr) ≡ false

-- the value that is worked out of this part of an expression; where nothing in that uses units, it defines no column
abbrev pub IsValueAt : StateView → ListPart → Expr → ℕ → KeptValue → Type 0
IsValueAt state part expr limit value =
    IsValueOf state.assumed (IsWorkedAt state part expr) (declared_of (scope_of state) expr) (SelectsAt state part expr) limit
    (NothingWorks state expr) value

-- that, or the same without its defined columns, and none is left
abbrev pub IsFlatAt : StateView → ListPart → Expr → ℕ → KeptValue → Type 0
IsFlatAt state part expr limit value =
    IsValueOf state.assumed (IsWrittenAt state part expr) (declared_of (scope_of state) expr) (SelectsAt state part expr) limit (Unit {0})
    value

-- of both parts
abbrev pub AreBothOf : StateView → Expr → ℕ → ListValue → Type 0
AreBothOf state expr limit list = IsValueAt state First expr limit list.first.value × IsValueAt state Second expr limit list.second.value

-- the same without defined columns
abbrev pub AreBothFlat : StateView → Expr → ℕ → ListValue → Type 0
AreBothFlat state expr limit list = IsFlatAt state First expr limit list.first.value × IsFlatAt state Second expr limit list.second.value

-- what is worked out of the first part is worked out of the second one too, as of all that is no list
abbrev pub IsWhole : StateView → Expr → Type 0
IsWhole state expr = (limit : ℕ) (value : KeptValue) → IsValueAt state First expr limit value → IsValueAt state Second expr limit value

-- what a word is asked of: it may be kept, and has no number above the limit
pub record IsAsked (state : StateView) (word : Prefix) (limit : ℕ) (operand asked : KeptValue) : Type 0 where
  pub of : IsAskedOf state (looks word) operand asked
  pub kept : IsKeptValue asked
  pub numbers : HasNumbersUpTo limit asked
  pub definitions : HasNoDefinitions operand → HasNoDefinitions asked

-- both are those of what is kept
pub record AreKept (bound : Kept) (list : ListValue) : Type 0 where
  pub first : list.first.value ≡ bound.value
  pub second : list.second.value ≡ value_at Second bound
  pub kept : (part : ListPart) → IsKeptValue (value_at part bound)
  pub definitions : (part : ListPart) → HasNoDefinitions (value_at part bound)
  pub params : (part : ListPart) → (value_at part bound).params ≡ bound.value.params

-- both are those of a flow
abbrev pub AreOfFlow : ListValue → Flow → Type 0
AreOfFlow list flow = (list.first.value ≡ flow.last) × (list.second.value ≡ flow.unsourced)

-- the value without its defined columns: it may be kept, and has no number above the limit
pub record IsMadeFlat (limit : ℕ) (worked value : KeptValue) : Type 0 where
  pub flat : IsFlatOf worked value
  pub kept : IsKeptValue value
  pub numbers : HasNumbersUpTo limit value
  pub definitions : HasNoDefinitions value

-- what is live of it
pub record IsLiveFlat (assumed : Assumed) (limit : ℕ) (worked value : KeptValue) : Type 0 where
  pub flat : IsLiveOf assumed (IsFlatOf worked) value
  pub kept : IsKeptValue value
  pub live : IsLiveUnder assumed value
  pub params : value.params ≡ worked.params
  pub elements : (valuation : Valuation) → Assumes assumed valuation
      → (element : Element) → Has value valuation element ↔ Has worked valuation element
  pub numbers : HasNumbersUpTo limit value
  pub definitions : HasNoDefinitions value

-- ---- source, sink and schedule
-- those that are worked out of three operands
pub record AreMade (state : StateView) (source sink schedule : Expr) (limit : ℕ) (three : Accesses) : Type 0 where
  pub first : IsValueAt state First source limit three.source.value
  pub second : IsValueAt state First sink limit three.sink.value
  pub third : IsValueAt state First schedule limit three.schedule.value

-- the operands end, one after another
abbrev pub OperandsEnd : StateView → Expr → Expr → Expr → End → Type 0
OperandsEnd state source sink schedule = FirstEnds (Ends state source) (FirstEnds (Ends state sink) (Ends state schedule))

-- what may be kept, with no number above the limit
abbrev pub IsKeptWithin : ℕ → KeptValue → Type 0
IsKeptWithin limit value = IsKeptValue value × HasNumbersUpTo limit value

pub record AreKeptWithin (limit : ℕ) (three : Accesses) : Type 0 where
  pub source : IsKeptWithin limit three.source.value
  pub sink : IsKeptWithin limit three.sink.value
  pub schedule : IsKeptWithin limit three.schedule.value

-- none of the three defines a column
abbrev pub AreAllPlain : Accesses → Type 0
AreAllPlain three = HasNoDefinitions three.source.value × HasNoDefinitions three.sink.value × HasNoDefinitions three.schedule.value

abbrev pub names_of_accesses : Accesses → List Name
names_of_accesses three = joined_names (joined_names three.source.value.params three.sink.value.params) three.schedule.value.params

-- the value has what is made of them
abbrev pub IsOfThree : Dependence → Accesses → ℕ → KeptValue → Type 0
IsOfThree Depends three limit value =
    IsMadeOf (IsDependenceOf Depends three.source.value three.sink.value three.schedule.value) (names_of_accesses three)
    (λ v x. Depends (Has three.source.value v) (Has three.sink.value v) (Has three.schedule.value v) x) limit (AreAllPlain three) value

-- both parts of the list that `last` makes of them
abbrev pub AreOfThree : Accesses → ℕ → ListValue → Type 0
AreOfThree three limit list =
    IsOfThree (PartHas First) three limit list.first.value × IsOfThree (PartHas Second) three limit list.second.value

-- what is live of that, and of both
abbrev pub IsLiveOfThree : Assumed → Dependence → Accesses → ℕ → KeptValue → Type 0
IsLiveOfThree assumed Depends three limit value =
    IsValueOf assumed
    (IsLiveOf assumed (IsDependenceOf Depends three.source.value three.sink.value three.schedule.value))
    (names_of_accesses three)
    (λ v x. Depends (Has three.source.value v) (Has three.sink.value v) (Has three.schedule.value v) x) limit (AreAllPlain three) value

abbrev pub AreLiveOfThree : Assumed → Accesses → ℕ → ListValue → Type 0
AreLiveOfThree assumed three limit list =
    IsLiveOfThree assumed (PartHas First) three limit list.first.value
    × IsLiveOfThree assumed (PartHas Second) three limit list.second.value

abbrev pub ThreeEnd : Accesses → End → Type 0
ThreeEnd three = DependenceEnds (names_of_accesses three) (Has three.source.value) (Has three.sink.value)

-- at assumed valuations alone
abbrev pub ThreeEndAt : StateView → Accesses → End → Type 0
ThreeEndAt state three =
    DependenceEnds (names_of_accesses three) (AtAssumed state (Has three.source.value)) (AtAssumed state (Has three.sink.value))

-- each piece of the three has an element at an assumed valuation
pub record AreAllLive (assumed : Assumed) (three : Accesses) : Type 0 where
  pub source : IsLiveUnder assumed three.source.value
  pub sink : IsLiveUnder assumed three.sink.value
  pub schedule : IsLiveUnder assumed three.schedule.value
