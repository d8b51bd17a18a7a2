-- inner: what the steps from bytes to an answer leave to one another.
use Rattle.std.specs.Prelude.{◌≡◌, ◌⊎◌, ◌≤◌, ℕ, ℤ, Bool, true, false, List, []}
use Rattle.std.specs.Prelude.{◌∷◌, ◌++◌, length, All, MatchResult, Option, None, Some, Result, Ok, Err, not, is_some, ◌||◌, if◌then◌else◌}
use Rattle.std.specs.List.{list_any}
use Rattle.isl_meter.specs.Gauge.{Gauge, IsCharged, limit_of}
use Rattle.isl_meter.specs.declared.Cut.{Cut}
use Rattle.isl_piece.specs.Cut.{IsCutFor}
use Rattle.isl_space.specs.Limits.{most_parameters}
use Rattle.isl_space.specs.Name.{Name}
use Rattle.isl_space.specs.Valuation.{Valuation, values_of}
use Rattle.isl_words.specs.Options.{OptionsView}
use Rattle.isl_union.specs.KeptValue.{KeptValue, HasNoDefinitions, IsKeptValue}
use Rattle.isl_union.specs.Fault.{IsFaultBy}
use Rattle.isl_assumed.specs.declared.assumed.Assumed.{Assumed}
use Rattle.isl_union.specs.declared.fault.OpFault.{OpFault}
use Rattle.isl_ast.specs.CallText.{call_lines}
use Rattle.isl_loop.specs.declared.tree.Loop.{Loop}
use Rattle.isl_loop.specs.Formed.{IsLoopOver}
use Rattle.isl_loop.specs.Program.{IsProgram}
use Rattle.isl_loop.specs.Run.{trace}
use Rattle.isl_schedule.specs.declared.fault.GenFault.{GenFault}
use Rattle.isl_schedule.specs.declared.fault.GenFault.TheVariants as gen_fault
use Rattle.isl_schedule.specs.Good.{IsGoodTree}
use Rattle.isl_greatest.specs.declared.fault.PipFault.{PipFault}
use Rattle.isl_greatest.specs.declared.fault.PipFault.TheVariants as pip_fault
use Rattle.isl_scan.specs.declared.fault.ScanFault.{ScanFault}
use Rattle.isl_scan.specs.declared.fault.ScanFault.TheVariants as scan_fault
use Rattle.isl_refusal.specs.declared.refusal.Refusal.{Refusal}
use Rattle.isl_refusal.specs.declared.refusal.Refusal.TheVariants.{NoMemory, NoMinimum, Nested, NotAssumed, Parametric, SeveralTimes, TimeShape}
use Rattle.isl_refusal.specs.declared.refusal.Refusal.TheVariants.{Unbounded}
use Rattle.isl_lower.specs.Value.{IsWellFormedLiteral}
use Rattle.isl_tree.specs.declared.statement.Prefix.{Prefix}
use Rattle.isl_tree.specs.declared.statement.Prefix.TheVariants.{LexMin}
use Rattle.isl_tree.specs.declared.words.Question.{Question}
use Rattle.isl_tree.specs.declared.words.Question.TheVariants as question
use Rattle.isl_tree.specs.Words.{word_row}
use Rattle.isl_tree.specs.declared.statement.Expr.{Expr, Row', Prefix', Any', Last', Post'}
use Rattle.isl_tree.specs.declared.statement.Expr as e
use Rattle.isl_tree.specs.declared.statement.Link.{Link}
use Rattle.isl_tree.specs.declared.statement.Stmt.{Stmt}
use Rattle.isl_tree.specs.declared.statement.Stmt.TheVariants.{Empty, Bind, Show, Assume}
use Rattle.isl_tree.specs.declared.statement.Binary.{Binary}
use Rattle.isl_tree.specs.declared.statement.Binary.TheVariants as b
use Rattle.isl_union.specs.Compare.{AreEqual, IsSubset}
use Rattle.isl_tree.specs.Expr.{literals_of, statement_literals}
use Rattle.isl_kinds.specs.Typed.{TypeView, ScopeView, is_dollar, has_unknown}
use Rattle.isl_kinds.specs.Typed.{declared_of, declared_of_row, joined_names, type_of_statement}
use Rattle.isl_flat.specs.Flat.{flat, is_gist, is_sample}
use Rattle.isl_flat.specs.Simple.{BindsIn}
use Rattle.isl_state.specs.declared.list.ListPart.TheVariants.{First}
use Rattle.isl_values.specs.State.{AtAssumed, Kept, Moment, StateView, Fits, HasNumbersUpTo, scope_of, forgotten}
use Rattle.isl_values.specs.Live.{IsLiveUnder, IsSampleAt}
use Rattle.isl_values.specs.Selection.{IsGistOfTwo, IsKeptOf, IsSelected, IsTogetherOf, Keeps, Selects, RowSelects, context_of}
use Rattle.isl_values.specs.Ends.{because, cut, not_assumed, CutAlone, End, Ends, EndsRow, FirstEnds, GoesOn, OperationEnds, WordEnds}
use Rattle.isl_values.specs.Made.{is_foreign, IsSoundExpr, IsSoundLink, IsPaid, IsWhyUnworked, refusal_of_cut}
use Rattle.isl_claim.specs.Claim.{claim_text, Claim, IsClaimOf}
use Rattle.isl_eval.specs.Claims.{claims_left, claims_right}
use Rattle.isl_eval.specs.Spelled.{BytesSpell}
use Rattle.isl_eval.specs.Tests.{Elements, is_test}
use Rattle.isl_eval.specs.Tests.{ends_with_test as row_ends_with_test}
use Rattle.isl_eval.specs.Causes.{Cause, no_token, too_deep, no_statement, too_wide, wide_number, causes}
use Rattle.isl_eval.specs.Causes.{IsThere, NoneIs, FirstGives, AreDone, is_parametric}
use Rattle.isl_eval.specs.Asked.{is_of_operand, question_of}
use Rattle.isl_eval.specs.Coded.{code_text, AtAssumedNumbers, GenerationEnds}
use Rattle.isl_eval.specs.Ended.{AskedEnds, IsAssumedWhereNeeded, ListingEnds, StatementEnds}
use Rattle.isl_eval.specs.Evaluated.{IsTyped, IsEvaluable, made_parts, works}

-- ---- reading

-- the causes that the bytes alone may have, whatever is bound
abbrev pub causes_of_bytes : List Cause
causes_of_bytes = no_token ∷ too_deep ∷ no_statement ∷ too_wide ∷ wide_number ∷ []

-- a statement that was read: none of its bytes' causes is there, and what its literals declare and name is what a value may have
pub record IsRead (before : Moment) (bytes : List ℕ) (stmt : Stmt) : Type 0 where
  pub spelled : BytesSpell bytes stmt
  pub none : NoneIs (IsThere before bytes) causes_of_bytes
  pub sound : All IsWellFormedLiteral (statement_literals stmt)

-- memory ended, or the first cause that is there gives this refusal
abbrev pub IsWhyNot : Moment → List ℕ → Refusal → Type 0
IsWhyNot before bytes refusal = (refusal ≡ NoMemory) ⊎ FirstGives (IsThere before bytes) causes refusal

-- ---- causes of what is bound

-- the parameters of a type, where there is one
abbrev pub names_of : Option TypeView → List Name
names_of None = []
names_of (Some t) = t.params

-- The statement has this type, so no cause is there that comes of what is bound; nor one that comes of the numbers that parameters are
-- given.
pub record IsWorkable (scope : ScopeView) (options : OptionsView) (stmt : Stmt) (type : Option TypeView) : Type 0 where
  pub typed : type_of_statement scope stmt ≡ Ok type
  pub given : is_parametric scope options stmt ≡ false

-- why a statement that was read is not to be worked out: the first of these causes is there, or memory ended
abbrev pub IsWhyUnworkable : ScopeView → OptionsView → Stmt → Refusal → Type 0
IsWhyUnworkable scope options stmt refusal =
    (type_of_statement scope stmt ≡ Err refusal)
    ⊎ ((IsTyped scope stmt × (is_parametric scope options stmt ≡ true) × (refusal ≡ Parametric)) ⊎ (refusal ≡ NoMemory))

-- a statement of this type that was read and may be worked out
pub record IsClearStatement (before : Moment) (bytes : List ℕ) (stmt : Stmt) (type : Option TypeView) : Type 0 where
  pub read : IsRead before bytes stmt
  pub able : IsWorkable (scope_of before.state) before.options stmt type

-- ---- what is asked first

-- why a statement is not evaluated: elements are to be listed, or loops to be run, where parameters have numbers that are not assumed; or
-- asking that was cut
abbrev pub IsWhyUnasked : Moment → Stmt → Gauge → Refusal → Type 0
IsWhyUnasked before stmt now refusal =
    ((refusal ≡ NotAssumed) × AskedEnds before stmt (because not_assumed) × (now ≡ before.meter))
    ⊎ ((what : Cut) × (refusal ≡ refusal_of_cut what) × IsCutFor (AskedEnds before stmt cut) before.meter now what)

-- ---- what is kept and shown

-- at each moment of this state and this limit, the value is kept of the first part of the expression
abbrev pub IsKeptIn : StateView → ℤ → Expr → KeptValue → Type 0
IsKeptIn state limit expr value =
    (before : Moment) → before.state ≡ state → limit_of before.meter ≡ limit → IsKeptOf before First expr value

-- the same of all that is kept of it
abbrev pub AreKeptIn : StateView → ℤ → Expr → Kept → Type 0
AreKeptIn state limit expr kept = (before : Moment) → before.state ≡ state → limit_of before.meter ≡ limit → Keeps before expr kept

-- what is kept of an expression can be worked out
pub record IsMakeable (scope : ScopeView) (expr : Expr) : Type 0 where
  pub plain : list_any is_foreign (made_parts expr) ≡ false
  pub known : has_unknown scope expr ≡ false
  pub literals : All IsWellFormedLiteral (literals_of expr)

-- the value is one of these, with these parameters, no number above the limit, and no column that is defined; each piece of it has an
-- element at an assumed valuation
pub record IsValueWith (assumed : Assumed) (Content : KeptValue → Type 0) (names : List Name) (limit : ℕ) (value : KeptValue) : Type 0 where
  pub content : Content value
  pub kept : IsKeptValue value
  pub live : IsLiveUnder assumed value
  pub params : value.params ≡ names
  pub numbers : HasNumbersUpTo limit value
  pub definitions : HasNoDefinitions value

-- one element that the value has at an assumed valuation, or none
pub record IsChosen (assumed : Assumed) (limit : ℕ) (value made : KeptValue) : Type 0 where
  pub sample : IsSampleAt assumed value made
  pub kept : IsKeptValue made
  pub live : IsLiveUnder assumed made
  pub numbers : HasNumbersUpTo limit made
  pub definitions : HasNoDefinitions made

-- the pieces of the value, put together
pub record IsPutAt (state : StateView) (limit : ℕ) (value made : KeptValue) : Type 0 where
  pub together : IsTogetherOf state value made
  pub kept : IsKeptValue made
  pub live : IsLiveUnder state.assumed made
  pub numbers : HasNumbersUpTo limit made
  pub definitions : HasNoDefinitions made

-- the gist of the value in the context of what another one has at assumed valuations
pub record IsGistIn (state : StateView) (limit : ℕ) (value context made : KeptValue) : Type 0 where
  pub gist : IsGistOfTwo state value context made
  pub kept : IsKeptValue made
  pub live : IsLiveUnder state.assumed made
  pub params : made.params ≡ joined_names value.params context.params
  pub numbers : HasNumbersUpTo limit made
  pub definitions : HasNoDefinitions made

-- a value of one element of what the operand selects, or of none
abbrev pub IsSampled : StateView → Expr → ℕ → KeptValue → Type 0
IsSampled state operand limit value =
    IsValueWith state.assumed (λ v. (argument : KeptValue) × IsSelected state operand argument × IsSampleAt state.assumed argument v)
    (declared_of (scope_of state) operand) limit value

-- what the operand selects, its pieces put together
abbrev pub IsTogether : StateView → Expr → ℕ → KeptValue → Type 0
IsTogether state operand limit value =
    IsValueWith state.assumed (λ v. (argument : KeptValue) × IsSelected state operand argument × IsTogetherOf state argument v)
    (declared_of (scope_of state) operand) limit value

-- the gist of what the left operand selects in the context of what the right one does
abbrev pub IsSimplified : StateView → Expr → Expr → ℕ → KeptValue → Type 0
IsSimplified state left right limit value =
    IsValueWith state.assumed
    (λ v. (a : KeptValue) × (c : KeptValue) × IsSelected state left a × IsSelected state right c × IsGistOfTwo state a c v)
    (joined_names (declared_of (scope_of state) left) (declared_of (scope_of state) right)) limit value

-- it puts pieces together
abbrev pub is_coalesce : Prefix → Bool
is_coalesce word = (word_row word).joins

-- what is kept of it is what it selects: of all but `sample`, `coalesce` and one `%` of two operands
abbrev pub keeps_selected : Expr → Bool
keeps_selected (e.Name name) = true
keeps_selected (e.Literal literal) = true
keeps_selected (Row' s first t links) = not (is_some (context_of links))
keeps_selected (Prefix' word s operand) = not (is_sample word || is_coalesce word)
keeps_selected (Any' r source s sink t schedule) = true
keeps_selected (Last' r source s sink t schedule) = true
keeps_selected (Post' s operand t postfixes) = true

-- the operand of the only operator of a list, where that is `%`
abbrev pub context_in : List Link → Option Expr
context_in (link ∷ []) = if is_gist link.operator then Some link.operand else None
context_in [] = None
context_in (link ∷ next ∷ more) = None

-- What a call leaves that works: something with P, and nothing ended it; or why there is none. Where nothing uses units, none was used.
abbrev pub IsOutcome : {A : Type 0} → Bool → (End → Type 0) → Gauge → Gauge → (A → Type 0) → Result A Refusal → Type 0
IsOutcome works Ends old new P result =
    MatchResult result (λ a. P a × IsPaid works old new × GoesOn Ends) (IsWhyUnworked works Ends old new)

-- the operand ends, or else work behind it is cut
abbrev pub EndsWork : StateView → Expr → End → Type 0
EndsWork state operand = FirstEnds (Ends state operand) CutAlone

-- what ends an operation of two values that forms no space
abbrev pub EndsTwo : KeptValue → KeptValue → End → Type 0
EndsTwo left right = OperationEnds (joined_names left.params right.params) ⊥ ⊥

-- what refuses a statement whose value has no loops
abbrev pub refusal_of_generation : GenFault → Refusal
refusal_of_generation gen_fault.Nested = Nested
refusal_of_generation gen_fault.TimeShape = TimeShape
refusal_of_generation gen_fault.Unbounded = Unbounded
refusal_of_generation gen_fault.SeveralTimes = SeveralTimes
refusal_of_generation (gen_fault.Cut what) = refusal_of_cut what

-- a good tree over the parameters of the value, whose text tells what it executes
abbrev pub IsTreeOf : Gauge → KeptValue → Loop → Type 0
IsTreeOf g value tree = IsLoopOver g (length value.params) tree × IsProgram value.params tree × IsGoodTree value tree

-- the calls of loops, where parameters have their given numbers
abbrev pub run_text : OptionsView → List Name → Loop → List ℕ
run_text options names tree = call_lines (trace tree (values_of names options.at))

-- the text is that of a good tree for the value, or of its calls
abbrev pub IsCodeOfValue : Gauge → OptionsView → KeptValue → List ℕ → Type 0
IsCodeOfValue g options value text = (tree : Loop) × IsTreeOf g value tree × (text ≡ code_text options value.params tree)

-- what refuses a statement whose trees miss a least element
abbrev pub refusal_of_trees : PipFault → Refusal
refusal_of_trees pip_fault.NoMinimum = NoMinimum
refusal_of_trees (pip_fault.Cut what) = refusal_of_cut what

-- what refuses a statement whose scan ended without a listing
abbrev pub refusal_of_fault : ScanFault → Refusal
refusal_of_fault (scan_fault.Cut what) = refusal_of_cut what
refusal_of_fault scan_fault.Unbounded = Unbounded

-- ---- what is asked for

abbrev pub asks_loops : Question → Bool
asks_loops question.Elements = false
asks_loops question.Loops = true
asks_loops question.Trees = false
asks_loops question.Value = false

abbrev pub is_codegen : Prefix → Bool
is_codegen word = asks_loops (question_of word)

abbrev pub asks_trees : Question → Bool
asks_trees question.Elements = false
asks_trees question.Loops = false
asks_trees question.Trees = true
asks_trees question.Value = false

abbrev pub is_pip : Prefix → Bool
is_pip word = asks_trees (question_of word)

-- elements, loops, trees or a truth are asked for
abbrev pub is_asked : Expr → Bool
is_asked (e.Name name) = false
is_asked (e.Literal literal) = false
is_asked (Row' s first t links) = row_ends_with_test links
is_asked (Prefix' word s operand) = is_of_operand (question_of word)
is_asked (Any' r source s sink t schedule) = false
is_asked (Last' r source s sink t schedule) = false
is_asked (Post' s operand t postfixes) = false

-- ---- tests

-- the last operator of a row, as a list, is a test
abbrev pub ends_with_test : List Link → Bool
ends_with_test [] = false
ends_with_test (link ∷ []) = is_test link.operator
ends_with_test (link ∷ next ∷ more) = ends_with_test (next ∷ more)

-- what a test tells of two values
abbrev pub Tells : Binary → KeptValue → KeptValue → Type 0
Tells b.Equal left right = AreEqual left right
Tells b.Subset left right = IsSubset left right
Tells b.ProperSubset left right = IsSubset left right × (¬ IsSubset right left)
Tells b.Superset left right = IsSubset right left
Tells b.ProperSuperset left right = IsSubset right left × (¬ IsSubset left right)
Tells b.LexLess left right = ⊥
Tells b.LexLessEqual left right = ⊥
Tells b.LexGreater left right = ⊥
Tells b.LexGreaterEqual left right = ⊥
Tells b.Universal left right = ⊥
Tells b.Union left right = ⊥
Tells b.Difference left right = ⊥
Tells b.RangeDifference left right = ⊥
Tells b.Intersection left right = ⊥
Tells b.RangeIntersection left right = ⊥
Tells b.Gist left right = ⊥
Tells b.Cross left right = ⊥
Tells b.Join left right = ⊥

-- the lines of a claim of these values where it is made, and else none
abbrev pub ShowsClaim : Bool → List Name → KeptValue → KeptValue → List ℕ → Type 0
ShowsClaim true names lesser greater lines = (claim : Claim) × IsClaimOf names lesser greater claim × (lines ≡ claim_text claim)
ShowsClaim false names lesser greater lines = lines ≡ []

-- The lines of both claims of a test: that the left value, at assumed valuations alone, is part of the right one; and then of the right
-- value and the left one.
pub record ShowsClaims (names : List Name) (test : Binary) (left right left_under right_under : KeptValue) (lines : List ℕ) : Type 0 where
  pub first : List ℕ
  pub second : List ℕ
  pub in_right : ShowsClaim (claims_left test) names left_under right first
  pub in_left : ShowsClaim (claims_right test) names right_under left second
  pub text : lines ≡ first ++ second

-- what the operators before a test make of the operands on its left
abbrev pub past_row : StateView → Expr → List Link → Elements
past_row state first before valuation element = RowSelects state valuation (Selects state first valuation) before element

-- the names that a row of this last link declares
abbrev pub names_tested : ScopeView → Expr → List Link → Link → List Name
names_tested scope first before last =
    joined_names (declared_of_row scope (declared_of scope first) before) (declared_of scope last.operand)

-- what stands around a test can be worked out
pub record IsReadyTest (scope : ScopeView) (first : Expr) (before : List Link) (last : Link) : Type 0 where
  pub left : IsSoundExpr scope first
  pub others : All (IsSoundLink scope) before
  pub right : IsSoundExpr scope last.operand
  pub test : is_test last.operator ≡ true

-- what a test of two values with these parameters leaves: an answer, over units alone and where they are few enough; or a fault
abbrev pub IsTestOf : {A : Type 0} → List Name → Gauge → Gauge → Result A OpFault → Type 0
IsTestOf names old new result =
    MatchResult result (λ _. (length names ≤ most_parameters) × IsCharged old new) (IsFaultBy names old new)

-- what ends a listing of what an operand selects at these numbers
abbrev pub EndsListing : StateView → Expr → Valuation → End → Type 0
EndsListing state operand at = FirstEnds (Ends state operand) (ListingEnds (λ element. Selects state operand at element))

-- what ends loops that visit what an operand selects
abbrev pub EndsGeneration : StateView → Expr → End → Type 0
EndsGeneration state operand =
    FirstEnds (Ends state operand) (GenerationEnds (AtAssumedNumbers state (declared_of (scope_of state) operand) (Selects state operand)))

-- what ends trees of what an operand selects
abbrev pub EndsTrees : StateView → Expr → End → Type 0
EndsTrees state operand = FirstEnds (Ends state operand) (WordEnds LexMin (AtAssumed state (Selects state operand)))

-- what ends a row of this last link
abbrev pub EndsTest : StateView → Expr → List Link → Link → End → Type 0
EndsTest state first before last =
    FirstEnds (Ends state first)
    (EndsRow state (declared_of (scope_of state) first) (λ valuation element. Selects state first valuation element) (before ++ last ∷ []))

-- what ends a row of one operator, of these operands
abbrev pub EndsPair : StateView → Expr → Binary → Expr → End → Type 0
EndsPair state left operator right = EndsTest state left [] (record { operator = operator; operand = right })

-- ---- one simple statement after another

-- Each may be evaluated when those before it are done, whatever they chose; each but the last binds a name that no script has, and the last
-- has this type.
abbrev pub AreEvaluable : ScopeView → List Stmt → Option TypeView → Type 0
AreEvaluable scope [] type = ⊥
AreEvaluable scope (stmt ∷ []) type = IsEvaluable scope stmt × (type_of_statement scope stmt ≡ Ok type)
AreEvaluable scope (Bind name expr ∷ next ∷ rest) type =
    (t : TypeView) × (type_of_statement scope (Bind name expr) ≡ Ok (Some t)) × (is_dollar name ≡ true) × IsEvaluable scope (Bind name expr)
    × ((later : ScopeView) → BindsIn scope name t later → AreEvaluable later (next ∷ rest) type)
AreEvaluable scope (Empty ∷ next ∷ rest) type = ⊥
AreEvaluable scope (Show expr ∷ next ∷ rest) type = ⊥
AreEvaluable scope (Assume set ∷ next ∷ rest) type = ⊥

-- the simple statements of a statement of this type that was read and may be worked out
pub record IsTaken (before : Moment) (bytes : List ℕ) (statements : List Stmt) (type : Option TypeView) : Type 0 where
  pub stmt : Stmt
  pub clear : IsClearStatement before bytes stmt type
  pub asked : IsAssumedWhereNeeded before stmt
  pub simple : statements ≡ flat stmt
  pub ready : AreEvaluable (scope_of before.state) statements type
  pub each : All (IsAssumedWhereNeeded before) statements

-- from one moment to another some of the statements were done, and the others are left
pub record AreLeft (before now : Moment) (done left : List Stmt) (type : Option TypeView) : Type 0 where
  pub ready : AreEvaluable (scope_of now.state) left type
  pub steps : AreDone before done now
  pub fits : Fits (limit_of before.meter) now.state
  pub others : forgotten now.state ≡ forgotten before.state
  pub paid : IsPaid (list_any (works before.state.assumed) done) before.meter now.meter
  pub options : now.options ≡ before.options

-- some of the statements were done, and the next has P
abbrev pub StopsAt : Moment → List Stmt → (Moment → Stmt → Type 0) → Type 0
StopsAt before statements P =
    (done : List Stmt) × (next : Stmt) × (later : List Stmt) × (statements ≡ done ++ next ∷ later)
    × ((moment : Moment) × AreDone before done moment × P moment next)

-- Why the statements were not answered: work was cut; or some were done, and the evaluation of the next ends.
abbrev pub IsWhyStopped : Moment → List Stmt → Gauge → Refusal → Type 0
IsWhyStopped before statements now refusal =
    IsWhyUnworked (list_any (works before.state.assumed) statements)
    (λ why. StopsAt before statements (λ moment next. StatementEnds moment next why)) before.meter now refusal
