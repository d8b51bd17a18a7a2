-- public: what statements have bound. (the iscc chapter of the barvinok manual, on assignments)
use Rattle.std.specs.Prelude.{◌≡◌, ◌≢◌, ◌↔◌, ℤ, pos, int_lt, false, not, List, [], ◌∷◌, All, Option, Some, is_some, filter, map}
use Rattle.std.specs.Prelude.{unsigned_abs}
use Rattle.std.specs.Prelude.{◌<◌, ◌≤◌, length, if◌then◌else◌, unwrap_or}
use Rattle.std.specs.Map.{lookup}
use Rattle.std.specs.Str.{bytes_eq}
use Rattle.isl_meter.specs.Gauge.{Gauge, limit_of}
use Rattle.isl_space.specs.Limits.{most_parameters}
use Rattle.isl_space.specs.Name.{Name}
use Rattle.isl_space.specs.Names.{joined}
use Rattle.isl_space.specs.Valuation.{Valuation}
use Rattle.isl_space.specs.Element.{Element}
use Rattle.isl_words.specs.Options.{OptionsView}
use Rattle.isl_union.specs.KeptValue.{KeptValue}
pub use Rattle.isl_union.specs.Numbers.{HasNumbersUpTo}
use Rattle.isl_tree.specs.declared.statement.ValueKind.{ValueKind}
use Rattle.isl_kinds.specs.Typed.{TypeView, ScopeView, is_dollar}
use Rattle.isl_assumed.specs.declared.assumed.Assumed.{Assumed}
use Rattle.isl_assumed.specs.declared.assumed.Assumed.TheVariants.{Nothing}
use Rattle.isl_assumed.specs.Assumed.{names_of, Assumes, IsPlain, IsSound}
use Rattle.isl_outcome.specs.End.{End, because, cut, too_wide, no_minimum, nested, time_shapes, unbounded, several_times}
use Rattle.isl_outcome.specs.End.{no_valuation, not_assumed}
use Rattle.isl_state.specs.Live.{IsLivePartOf, IsLiveUnder}
use Rattle.isl_state.specs.declared.list.ListPart.{ListPart}
use Rattle.isl_state.specs.declared.list.ListPart.TheVariants.{First, Second}

-- what a name stands for: a kind and a kept value, and of a list a second one
pub record Kept : Type 0 where
  pub kind : ValueKind
  pub value : KeptValue
  pub second : Option KeptValue

-- the value of a part; what is no list is each of its parts
abbrev pub value_at : ListPart → Kept → KeptValue
value_at First kept = kept.value
value_at Second kept = unwrap_or kept.second kept.value

-- the part that a number in square brackets stands for: `[0]` for the first, `[1]` for the second; others are refused before
abbrev pub part_at : ℤ → ListPart
part_at number = if int_lt (pos 0) number then Second else First

-- the bound names, each with what it stands for, and the valuations of the parameters that are assumed
pub record StateView : Type 0 where
  pub bound : List (Name × Kept)
  pub assumed : Assumed

-- no name is bound, and each valuation is assumed
abbrev pub unbound : StateView
unbound = record { bound = []; assumed = Nothing }

-- what a name stands for, where it is bound
abbrev pub kept_of : StateView → Name → Option Kept
kept_of state name = lookup (bytes_eq name) state.bound

-- the kind of what is kept, and the parameters that it declares
abbrev pub type_of : Kept → TypeView
type_of kept = record { kind = kept.kind; params = kept.value.params }

-- the bound names, each with the type of what it stands for
abbrev pub scope_of : StateView → ScopeView
scope_of state = map (λ entry. (entry.0, type_of entry.1)) state.bound

-- from now on the name stands for this, and every other name for what it stood for; what is assumed stays
pub record Binds (before : StateView) (name : Name) (kept : Kept) (after : StateView) : Type 0 where
  pub named : kept_of after name ≡ Some kept
  pub others : (other : Name) → other ≢ name → kept_of after other ≡ kept_of before other
  pub assumed : after.assumed ≡ before.assumed

-- without the names that no script has: `$1`, `$2`, .., which stand for what is chosen once in a statement
abbrev pub forgotten : StateView → StateView
forgotten state = record state { bound = filter (λ entry. not (is_dollar entry.0)) state.bound }

-- no such name is bound
abbrev pub IsSettled : StateView → Type 0
IsSettled state = All (λ entry. is_dollar entry.0 ≡ false) state.bound

-- everything that is kept has P
abbrev pub EachKept : (Kept → Type 0) → StateView → Type 0
EachKept P state = (name : Name) (kept : Kept) → kept_of state name ≡ Some kept → P kept

-- each piece of what is kept has an element at an assumed valuation
abbrev pub IsKeptLive : Assumed → Kept → Type 0
IsKeptLive assumed kept = (part : ListPart) → IsLiveUnder assumed (value_at part kept)

-- All numbers of what is bound and of what is assumed are within the limit, no column of what is assumed is defined, and each piece of what
-- is bound has an element at an assumed valuation.
pub record Fits (limit : ℤ) (state : StateView) : Type 0 where
  pub numbers : EachKept (λ kept. (part : ListPart) → HasNumbersUpTo (unsigned_abs limit) (value_at part kept)) state
  pub live : EachKept (IsKeptLive state.assumed) state
  pub sound : (g : Gauge) → limit_of g ≡ limit → IsSound g state.assumed
  pub plain : IsPlain state.assumed

-- at every assumed valuation of the parameters
abbrev pub Everywhere : StateView → (Valuation → Type 0) → Type 0
Everywhere state P = (valuation : Valuation) → Assumes state.assumed valuation → P valuation

-- these elements, at assumed valuations alone
abbrev pub AtAssumed : StateView → (Valuation → Element → Type 0) → Valuation → Element → Type 0
AtAssumed state Elements valuation element = Assumes state.assumed valuation × Elements valuation element

-- what is bound, the meter, and what the command line chooses, such as the numbers of parameters, as one moment sees them
pub record Moment : Type 0 where
  pub state : StateView
  pub meter : Gauge
  pub options : OptionsView

-- ---- assumptions
-- what is left of what is kept: of each value the pieces that have an element at an assumed valuation
pub record IsLeftOf (assumed : Assumed) (kept left : Kept) : Type 0 where
  pub kind : left.kind ≡ kept.kind
  pub list : is_some left.second ≡ is_some kept.second
  pub values : (part : ListPart) → IsLivePartOf assumed (value_at part kept) (value_at part left)

-- the same names, in order, each with what is left of what it stood for
abbrev pub AreLeftOf : Assumed → List (Name × Kept) → List (Name × Kept) → Type 0
AreLeftOf assumed [] left = left ≡ []
AreLeftOf assumed (entry ∷ entries) left =
    (kept : Kept) × (rest : List (Name × Kept)) × (left ≡ (entry.0, kept) ∷ rest) × IsLeftOf assumed entry.1 kept
    × AreLeftOf assumed entries rest

-- Of the assumed valuations those of P are left, which depend on these names, and there is one.
pub record IsNarrowedTo (assumed : Assumed) (others : List Name) (P : Valuation → Type 0) (narrowed : Assumed) : Type 0 where
  pub names : names_of narrowed ≡ joined (names_of assumed) others
  pub valuations : (valuation : Valuation) → Assumes narrowed valuation ↔ (Assumes assumed valuation × P valuation)
  pub some : ¬ ((valuation : Valuation) → ¬ Assumes narrowed valuation)

-- those of a set are left, within the limit; no column is defined where none was
pub record IsNarrowed (g : Gauge) (assumed set narrowed : Assumed) : Type 0 where
  pub to : IsNarrowedTo assumed (names_of set) (Assumes set) narrowed
  pub sound : IsSound g narrowed
  pub plain : IsPlain assumed → IsPlain set → IsPlain narrowed

-- that, and of each value that is bound the pieces that have an element at one of them
pub record Narrows (before : StateView) (names : List Name) (P : Valuation → Type 0) (after : StateView) : Type 0 where
  pub assumed : IsNarrowedTo before.assumed names P after.assumed
  pub bound : AreLeftOf after.assumed before.bound after.bound

-- What ends a narrowing to those of P, which depend on these names: too many names together; else no valuation is left. The work comes
-- before that is asked.
abbrev pub NarrowingEnds : Assumed → List Name → (Valuation → Type 0) → End → Type 0
NarrowingEnds assumed names P (because too_wide) = most_parameters < length (joined (names_of assumed) names)
NarrowingEnds assumed names P (because no_valuation) =
    (length (joined (names_of assumed) names) ≤ most_parameters) × ((valuation : Valuation) → Assumes assumed valuation → ¬ P valuation)
NarrowingEnds assumed names P (because no_minimum) = ⊥
NarrowingEnds assumed names P (because nested) = ⊥
NarrowingEnds assumed names P (because time_shapes) = ⊥
NarrowingEnds assumed names P (because unbounded) = ⊥
NarrowingEnds assumed names P (because several_times) = ⊥
NarrowingEnds assumed names P (because not_assumed) = ⊥
NarrowingEnds assumed names P cut = length (joined (names_of assumed) names) ≤ most_parameters
