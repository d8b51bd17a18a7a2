-- public: why a complete statement is refused.
use Rattle.std.specs.Prelude.{◌≡◌, ◌⊎◌, ℕ, Bool, true, false, not, ◌&&◌, List, [], ◌∷◌, ◌++◌, None, Err}
use Rattle.std.specs.List.{list_any}
use Rattle.std.specs.Str.{bytes_eq}
use Rattle.isl_meter.specs.Gauge.{Gauge, IsCharged, IsCutBy, limit_of}
use Rattle.isl_meter.specs.declared.Cut.{Cut}
use Rattle.isl_meter.specs.declared.Cut.TheVariants as cut
use Rattle.isl_space.specs.Name.{Name}
use Rattle.isl_space.specs.Valuation.{Valuation}
use Rattle.isl_words.specs.Options.{OptionsView}
use Rattle.isl_token.specs.Lex.{tokens}
use Rattle.isl_token.specs.Depth.{is_too_deep}
use Rattle.isl_assumed.specs.declared.assumed.Assumed.{Assumed}
use Rattle.isl_refusal.specs.declared.refusal.Refusal.{Refusal}
use Rattle.isl_refusal.specs.declared.refusal.Refusal.TheVariants as r
use Rattle.isl_text.specs.Read.{has_wide_number}
use Rattle.isl_tree.specs.declared.statement.Stmt.{Stmt}
use Rattle.isl_tree.specs.declared.statement.Stmt.TheVariants.{Empty, Bind, Show, Assume}
use Rattle.isl_stmt.specs.Limits.{statement_is_within}
use Rattle.isl_stmt.specs.Read.{NoStatement}
use Rattle.isl_kinds.specs.Parts.{parts_of_statement}
use Rattle.isl_kinds.specs.Typed.{ScopeView, declared_of, type_of_statement}
use Rattle.isl_flat.specs.Flat.{flat}
use Rattle.isl_values.specs.State.{Moment, scope_of}
use Rattle.isl_values.specs.Ends as ends
use Rattle.isl_values.specs.Ends.{End, Reason, FirstEnds, GoesOn, because}
use Rattle.isl_values.specs.Made.{uses_units}
use Rattle.isl_eval.specs.Asked.{shows_at_numbers}
use Rattle.isl_eval.specs.Ended.{AskedEnds, StatementEnds}
use Rattle.isl_eval.specs.Machine.{Step, nothing}
use Rattle.isl_eval.specs.Spelled.{OfTokens, OfStatement}

-- what the bytes of a statement are looked at for
pub data Cause : Type 0 where
  -- a byte begins no token
  no_token : Cause
  -- brackets and prefixes are nested too deeply
  too_deep : Cause
  -- the tokens spell no statement
  no_statement : Cause
  -- a literal has too many parameters, coordinates, leaves or bound variables
  too_wide : Cause
  -- a number is above the limit
  wide_number : Cause
  -- a name is unbound, or an identifier of a literal unknown
  unknown_name : Cause
  -- an operation takes no operands of such kinds, or what would be bound may not be bound
  wrong_kind : Cause
  -- a list has no element with that number
  no_element : Cause
  -- elements are to be listed, or loops to be run, and a declared parameter has no number
  parametric : Cause

-- the causes, in the order in which they are looked for, each in the whole statement before the next
abbrev pub causes : List Cause
causes =
    no_token ∷ too_deep ∷ no_statement ∷ too_wide ∷ wide_number ∷ unknown_name ∷ wrong_kind ∷ no_element ∷ parametric ∷ []

abbrev pub refusal_of : Cause → Refusal
refusal_of no_token = r.Syntax
refusal_of too_deep = r.TooDeep
refusal_of no_statement = r.Syntax
refusal_of too_wide = r.TooWide
refusal_of wide_number = r.WideNumber
refusal_of unknown_name = r.UnknownName
refusal_of wrong_kind = r.WrongKind
refusal_of no_element = r.NoElement
refusal_of parametric = r.Parametric

-- whether the name is given a number
abbrev pub is_given : Valuation → Name → Bool
is_given at name = list_any (λ given. bytes_eq given.0 name) at

-- elements are to be listed, or loops to be run, of what declares a parameter that is given no number
abbrev pub is_parametric : ScopeView → OptionsView → Stmt → Bool
is_parametric scope options Empty = false
is_parametric scope options (Bind name expr) = false
is_parametric scope options (Show expr) =
    shows_at_numbers options.run expr && list_any (λ name. not (is_given options.at name)) (declared_of scope expr)
is_parametric scope options (Assume set) = false

-- the bytes have the cause at this moment
abbrev pub IsThere : Moment → List ℕ → Cause → Type 0
IsThere before bytes no_token = tokens bytes ≡ None
IsThere before bytes too_deep = OfTokens bytes (λ ts. is_too_deep ts ≡ true)
IsThere before bytes no_statement = OfTokens bytes NoStatement
IsThere before bytes too_wide = OfStatement bytes (λ stmt. statement_is_within stmt ≡ false)
IsThere before bytes wide_number = OfTokens bytes (λ ts. has_wide_number (limit_of before.meter) ts ≡ true)
IsThere before bytes unknown_name = OfStatement bytes (λ stmt. type_of_statement (scope_of before.state) stmt ≡ Err r.UnknownName)
IsThere before bytes wrong_kind = OfStatement bytes (λ stmt. type_of_statement (scope_of before.state) stmt ≡ Err r.WrongKind)
IsThere before bytes no_element = OfStatement bytes (λ stmt. type_of_statement (scope_of before.state) stmt ≡ Err r.NoElement)
IsThere before bytes parametric = OfStatement bytes (λ stmt. is_parametric (scope_of before.state) before.options stmt ≡ true)

-- the first of these causes that is there gives this refusal
abbrev pub FirstGives : (Cause → Type 0) → List Cause → Refusal → Type 0
FirstGives There [] refusal = ⊥
FirstGives There (cause ∷ later) refusal = (There cause × (refusal ≡ refusal_of cause)) ⊎ (¬ There cause × FirstGives There later refusal)

-- none of these causes is there
abbrev pub NoneIs : (Cause → Type 0) → List Cause → Type 0
NoneIs There [] = Unit {0}
NoneIs There (cause ∷ later) = ¬ There cause × NoneIs There later

-- what the bytes say is no cause to refuse them
abbrev pub IsClear : Moment → List ℕ → Type 0
IsClear before bytes = NoneIs (IsThere before bytes) causes

-- ---- causes that show while a statement is worked out
-- these simple statements are done, and answer nothing
unfoldable pub AreDone : Moment → List Stmt → Moment → Type 0
AreDone before [] now = now ≡ before
AreDone before (stmt ∷ more) now = (next : Moment) × Step before stmt next nothing × AreDone next more now

-- the first simple statements of a statement are done, in one of the ways in which they may choose, and the next has P
pub record Stops (before : Moment) (stmt : Stmt) (P : Moment → Stmt → Type 0) : Type 0 where
  pub done : List Stmt
  pub next : Stmt
  pub later : List Stmt
  pub split : flat stmt ≡ done ++ next ∷ later
  pub now : Moment
  pub steps : AreDone before done now
  pub stops : P now next

-- The evaluation of a statement ends, in one of the ways in which it may choose. Where elements are to be listed or loops to be run, it is
-- asked first whether the numbers that parameters are given are assumed.
abbrev pub EvaluationEnds : Moment → Stmt → End → Type 0
EvaluationEnds before stmt = FirstEnds (AskedEnds before stmt) (λ why. Stops before stmt (λ now next. StatementEnds now next why))

abbrev pub IsEnded : Moment → List ℕ → End → Type 0
IsEnded before bytes why = OfStatement bytes (λ stmt. EvaluationEnds before stmt why)

-- no cause is there to refuse the bytes of a statement, whatever it chooses
pub record IsValid (before : Moment) (bytes : List ℕ) : Type 0 where
  pub clear : IsClear before bytes
  pub goes_on : GoesOn (IsEnded before bytes)

-- ---- units
-- a part that may use units stands in the statement: anything but names, `[i]` and, where nothing is assumed, `+`, `^-1` and the words that
-- only move columns
abbrev pub HasWork : Assumed → Stmt → Type 0
HasWork assumed stmt = list_any (uses_units assumed) (parts_of_statement stmt) ≡ true

-- the meter is as it was, unless work stands in the statement
abbrev pub SparesUnits : Moment → List ℕ → Gauge → Type 0
SparesUnits before bytes now = ¬ OfStatement bytes (HasWork before.state.assumed) → now ≡ before.meter

-- the first of the causes that is there gives the refusal, and nothing is used
abbrev pub RefusesFirst : Moment → List ℕ → Gauge → Refusal → Type 0
RefusesFirst before bytes now refusal = FirstGives (IsThere before bytes) causes refusal × (now ≡ before.meter)

-- while a statement without any of the causes is worked out, its evaluation ends for this reason, which counts nothing
abbrev pub RefusesBecause : Moment → List ℕ → Gauge → Reason → Type 0
RefusesBecause before bytes now reason =
    IsClear before bytes × IsEnded before bytes (because reason) × IsCharged before.meter now × SparesUnits before bytes now

-- the evaluation of a statement without any of the causes ends for this reason before it begins, and nothing is used
abbrev pub RefusesBefore : Moment → List ℕ → Gauge → Reason → Type 0
RefusesBefore before bytes now reason = IsClear before bytes × IsEnded before bytes (because reason) × (now ≡ before.meter)

-- work of a statement without any of the causes is cut, where nothing ends its evaluation before
abbrev pub RefusesCut : Moment → List ℕ → Gauge → Cut → Type 0
RefusesCut before bytes now what =
    IsClear before bytes × OfStatement bytes (HasWork before.state.assumed) × IsEnded before bytes ends.cut × IsCutBy before.meter now what

-- Why a complete statement is refused, and what it did to the meter until then. Overflow and want of units may come only while a
-- statement without any of the causes is worked out in which work stands, and both are counted. So may what ends the evaluation, which
-- counts nothing. Memory may end at any time, and that counts nothing.
abbrev pub Refuses : Moment → List ℕ → Gauge → Refusal → Type 0
Refuses before bytes now r.Overflow = RefusesCut before bytes now cut.Overflow
Refuses before bytes now r.Budget = RefusesCut before bytes now cut.Budget
Refuses before bytes now r.NoMemory = IsCharged before.meter now × SparesUnits before bytes now
Refuses before bytes now r.TooWide =
    RefusesFirst before bytes now r.TooWide ⊎ RefusesBecause before bytes now ends.too_wide
Refuses before bytes now r.NoMinimum = RefusesBecause before bytes now ends.no_minimum
Refuses before bytes now r.Unbounded = RefusesBecause before bytes now ends.unbounded
Refuses before bytes now r.SeveralTimes = RefusesBecause before bytes now ends.several_times
Refuses before bytes now r.TimeShape = RefusesBecause before bytes now ends.time_shapes
Refuses before bytes now r.Nested = RefusesBecause before bytes now ends.nested
Refuses before bytes now r.NoValuation = RefusesBecause before bytes now ends.no_valuation
Refuses before bytes now r.NotAssumed = RefusesBefore before bytes now ends.not_assumed
Refuses before bytes now r.Syntax = RefusesFirst before bytes now r.Syntax
Refuses before bytes now r.UnknownName = RefusesFirst before bytes now r.UnknownName
Refuses before bytes now r.WrongKind = RefusesFirst before bytes now r.WrongKind
Refuses before bytes now r.NoElement = RefusesFirst before bytes now r.NoElement
Refuses before bytes now r.Parametric = RefusesFirst before bytes now r.Parametric
Refuses before bytes now r.TooDeep = RefusesFirst before bytes now r.TooDeep
Refuses before bytes now r.WideNumber = RefusesFirst before bytes now r.WideNumber
Refuses before bytes now r.Usage = RefusesFirst before bytes now r.Usage
Refuses before bytes now r.TooLong = RefusesFirst before bytes now r.TooLong
Refuses before bytes now r.Unfinished = RefusesFirst before bytes now r.Unfinished
Refuses before bytes now r.ReadFault = RefusesFirst before bytes now r.ReadFault
Refuses before bytes now r.WriteFault = RefusesFirst before bytes now r.WriteFault
Refuses before bytes now r.ScriptTooLong = RefusesFirst before bytes now r.ScriptTooLong
