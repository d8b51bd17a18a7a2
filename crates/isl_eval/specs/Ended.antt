-- public: why the evaluation of a statement ends without an answer. (isl manual, on parameter domains and on code generation; the iscc
-- chapter of the barvinok manual)
use Rattle.std.specs.Prelude.{◌≡◌, true, List}
use Rattle.isl_space.specs.Element.{Element}
use Rattle.isl_space.specs.Name.{Name}
use Rattle.isl_assumed.specs.Assumed.{Assumes, PassesLimitAt}
use Rattle.isl_tree.specs.declared.statement.Expr.{Expr, Row', Prefix', Any', Last', Post'}
use Rattle.isl_tree.specs.declared.statement.Expr as e
use Rattle.isl_tree.specs.declared.statement.Prefix.TheVariants.{LexMin}
use Rattle.isl_tree.specs.declared.words.Question.{Question}
use Rattle.isl_tree.specs.declared.words.Question.TheVariants as question
use Rattle.isl_tree.specs.declared.statement.Stmt.{Stmt}
use Rattle.isl_tree.specs.declared.statement.Stmt.TheVariants.{Empty, Bind, Show, Assume}
use Rattle.isl_tree.specs.declared.tree.Literal.{Literal}
use Rattle.isl_kinds.specs.Typed.{declared_in}
use Rattle.isl_values.specs.State.{AtAssumed, Moment, StateView, scope_of}
use Rattle.isl_values.specs.Selection.{SelectsIn}
use Rattle.isl_state.specs.declared.list.ListPart.TheVariants.{First}
use Rattle.isl_values.specs.Ends.{End, because, cut, too_wide, no_minimum, nested, time_shapes, unbounded, several_times}
use Rattle.isl_values.specs.Ends.{no_valuation, not_assumed}
use Rattle.isl_values.specs.Ends.{CutAlone, Elements, NoEnd, FirstEnds, Ends, EndsIn, NarrowingEnds, WordEnds}
use Rattle.isl_eval.specs.Params.{HoldsSome}
use Rattle.isl_eval.specs.Listed.{AreFinite}
use Rattle.isl_eval.specs.Asked.{question_of, needs_numbers}
use Rattle.isl_eval.specs.Coded.{AtAssumedNumbers, GenerationEnds}

-- elements are to be listed, and there are infinitely many of them; that is asked first, and is work
abbrev pub ListingEnds : (Element → Type 0) → End → Type 0
ListingEnds P (because too_wide) = ⊥
ListingEnds P (because no_minimum) = ⊥
ListingEnds P (because nested) = ⊥
ListingEnds P (because time_shapes) = ⊥
ListingEnds P (because unbounded) = ¬ AreFinite P
ListingEnds P (because several_times) = ⊥
ListingEnds P (because no_valuation) = ⊥
ListingEnds P (because not_assumed) = ⊥
ListingEnds P cut = Unit {0}

-- What is asked of an operand that declares these names and selects these elements: they are listed where parameters have their given
-- numbers, loops visit them, or trees give the least ones, which ends as `lexmin` does. The operand comes first. Where a value is asked for it
-- is that of the whole.
abbrev pub QuestionEnds : Question → Moment → Expr → (End → Type 0) → List Name → Elements → End → Type 0
QuestionEnds question.Elements now whole OperandEnds names P = FirstEnds OperandEnds (ListingEnds (λ element. P now.options.at element))
QuestionEnds question.Loops now whole OperandEnds names P = FirstEnds OperandEnds (GenerationEnds (AtAssumedNumbers now.state names P))
QuestionEnds question.Trees now whole OperandEnds names P = FirstEnds OperandEnds (WordEnds LexMin (AtAssumed now.state P))
QuestionEnds question.Value now whole OperandEnds names P = Ends now.state whole

-- of an expression that is shown
abbrev pub ShownEnds : Moment → Expr → End → Type 0
ShownEnds now (e.Name name) = Ends now.state (e.Name name)
ShownEnds now (e.Literal literal) = Ends now.state (e.Literal literal)
ShownEnds now (Row' s first t links) = Ends now.state (Row' s first t links)
ShownEnds now (Prefix' word s operand) =
    QuestionEnds (question_of word) now (Prefix' word s operand) (EndsIn now.state operand) (declared_in (scope_of now.state) operand)
    (λ valuation element. SelectsIn now.state First operand valuation element)
ShownEnds now (Any' r source s sink t schedule) = Ends now.state (Any' r source s sink t schedule)
ShownEnds now (Last' r source s sink t schedule) = Ends now.state (Last' r source s sink t schedule)
ShownEnds now (Post' s operand t postfixes) = Ends now.state (Post' s operand t postfixes)

-- the set of an assumption comes first, which is work, and then it is met with what is assumed
abbrev pub NarrowedEnds : StateView → Literal → End → Type 0
NarrowedEnds state set = FirstEnds CutAlone (NarrowingEnds state.assumed set.params (HoldsSome set))

-- of a simple statement
abbrev pub StatementEnds : Moment → Stmt → End → Type 0
StatementEnds now Empty = NoEnd
StatementEnds now (Bind name expr) = Ends now.state expr
StatementEnds now (Show expr) = ShownEnds now expr
StatementEnds now (Assume set) = NarrowedEnds now.state set

-- ---- before any part of a statement is evaluated
-- where elements are to be listed, or loops to be run, the valuation that gives parameters their numbers, and 0 to the others, is assumed
abbrev pub IsAssumedWhereNeeded : Moment → Stmt → Type 0
IsAssumedWhereNeeded before stmt = needs_numbers before.options.run stmt ≡ true → Assumes before.state.assumed before.options.at

-- they are, and it is not, which is asked first; a form of what is assumed may pass the limit there
abbrev pub AskedEnds : Moment → Stmt → End → Type 0
AskedEnds before stmt (because too_wide) = ⊥
AskedEnds before stmt (because no_minimum) = ⊥
AskedEnds before stmt (because nested) = ⊥
AskedEnds before stmt (because time_shapes) = ⊥
AskedEnds before stmt (because unbounded) = ⊥
AskedEnds before stmt (because several_times) = ⊥
AskedEnds before stmt (because no_valuation) = ⊥
AskedEnds before stmt (because not_assumed) =
    (needs_numbers before.options.run stmt ≡ true) × (¬ Assumes before.state.assumed before.options.at)
AskedEnds before stmt cut =
    (needs_numbers before.options.run stmt ≡ true) × PassesLimitAt before.meter before.state.assumed before.options.at
