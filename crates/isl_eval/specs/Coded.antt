-- public: loops that visit what an expression selects: why there are none, which are good, and what is answered of them. (isl manual, on
-- code generation; the iscc chapter of the barvinok manual)
use Rattle.std.specs.Prelude.{◌≡◌, ℕ, List, length, if◌then◌else◌}
use Rattle.isl_meter.specs.Gauge.{Gauge}
use Rattle.isl_space.specs.Name.{Name}
use Rattle.isl_space.specs.SpaceForm.{SpaceForm}
use Rattle.isl_space.specs.Valuation.{Valuation, values_of}
use Rattle.isl_words.specs.Options.{OptionsView}
use Rattle.isl_ast.specs.CallText.{call_lines}
use Rattle.isl_loop.specs.declared.tree.Loop.{Loop}
use Rattle.isl_loop.specs.Formed.{IsLoopOver}
use Rattle.isl_loop.specs.Good.{AreGood}
use Rattle.isl_loop.specs.Program.{IsProgram}
use Rattle.isl_loop.specs.Run.{trace}
use Rattle.isl_loop_text.specs.LoopText.{loop_text}
use Rattle.isl_relation.specs.Point.{Point}
use Rattle.isl_schedule.specs.Schedule.{domain_form, time_form, IsPair, IsVisitedAt}
use Rattle.isl_schedule.specs.Due.{IsDue}
use Rattle.isl_operators.specs.Formed.{AreIn}
use Rattle.isl_assumed.specs.Assumed.{Assumes}
use Rattle.isl_values.specs.State.{Everywhere, StateView}
use Rattle.isl_values.specs.Ends.{End, because, cut, too_wide, no_minimum, nested, time_shapes, unbounded, several_times}
use Rattle.isl_values.specs.Ends.{no_valuation, not_assumed, Elements}
use Rattle.isl_eval.specs.Listed.{AreFinite}

-- ---- no loops
-- at each valuation these elements, but only those that there are at an assumed valuation with the same numbers of these names
abbrev pub AtAssumedNumbers : StateView → List Name → Elements → Elements
AtAssumedNumbers state names P valuation element =
    (other : Valuation) × (values_of names other ≡ values_of names valuation) × Assumes state.assumed other × P other element

-- a pair is visited at some valuation
abbrev pub VisitsPair : Elements → Type 0
VisitsPair P = (s : SpaceForm) × AreIn P s × IsPair (domain_form s)

-- all times have one form
abbrev pub HaveOneTimeForm : Elements → Type 0
HaveOneTimeForm P = (s t : SpaceForm) → AreIn P s → AreIn P t → time_form s ≡ time_form t

-- there are finitely many at every valuation
abbrev pub AreFiniteEverywhere : Elements → Type 0
AreFiniteEverywhere P = (valuation : Valuation) → AreFinite (P valuation)

-- no point has two times at one valuation
abbrev pub HaveSingleTimes : Elements → Type 0
HaveSingleTimes P = (valuation : Valuation) (x t u : Point) → IsVisitedAt (P valuation) x t → IsVisitedAt (P valuation) x u → t ≡ u

-- The first of these that is so, in this order: a pair is visited; times differ in form; at some valuation infinitely many points are
-- visited; at some valuation a point has two times. That is work, and so is what is made then.
abbrev pub GenerationEnds : Elements → End → Type 0
GenerationEnds P (because nested) = VisitsPair P
GenerationEnds P (because time_shapes) = (¬ VisitsPair P) × (¬ HaveOneTimeForm P)
GenerationEnds P (because unbounded) = (¬ VisitsPair P) × HaveOneTimeForm P × (¬ AreFiniteEverywhere P)
GenerationEnds P (because several_times) = (¬ VisitsPair P) × HaveOneTimeForm P × AreFiniteEverywhere P × (¬ HaveSingleTimes P)
GenerationEnds P (because too_wide) = ⊥
GenerationEnds P (because no_minimum) = ⊥
GenerationEnds P (because no_valuation) = ⊥
GenerationEnds P (because not_assumed) = ⊥
GenerationEnds P cut = Unit {0}

-- ---- good loops
-- at every assumed valuation the tree calls each point that is visited once, and nothing else, and no later call's time is before an
-- earlier one's
abbrev pub IsGoodTreeOf : StateView → List Name → Elements → Loop → Type 0
IsGoodTreeOf state names P tree =
    Everywhere state (λ valuation. AreGood (λ event time. IsDue (P valuation) (time, event)) (trace tree (values_of names valuation)))

-- ---- what is answered
-- the text of the loops; or, where they are run, the lines of their calls, where parameters have their given numbers
abbrev pub code_text : OptionsView → List Name → Loop → List ℕ
code_text options names tree = if options.run then call_lines (trace tree (values_of names options.at)) else loop_text names tree

-- It is that of a good tree over these names, of which no number is above the limit. The tree is a program, so whatever program over the same
-- names has the text of its loops executes the same (`program_tells` of `isl_loop_law`).
abbrev pub IsCodeOf : StateView → Gauge → OptionsView → List Name → Elements → List ℕ → Type 0
IsCodeOf state meter options names P text =
    (tree : Loop) × IsLoopOver meter (length names) tree × IsProgram names tree × IsGoodTreeOf state names P tree
    × (text ≡ code_text options names tree)
