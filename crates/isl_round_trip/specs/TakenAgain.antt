-- public: what the program answers, it takes again. (isl manual, the notation of sets and relations; the iscc chapter of the barvinok
-- manual)
use Rattle.std.specs.Prelude.{◌≡◌, ◌↔◌, ℕ, true, false, List, [], ◌∷◌, ◌++◌, None}
use Rattle.isl_space.specs.Element.{Element}
use Rattle.isl_space.specs.Valuation.{Valuation}
use Rattle.isl_union.specs.KeptValue.{KeptValue, Has}
use Rattle.isl_print.specs.OrderedValue.{ordered}
use Rattle.isl_print.specs.Printed.{printed}
use Rattle.isl_token.specs.Depth.{is_too_deep}
use Rattle.isl_tree.specs.declared.tree.Literal.{Literal}
use Rattle.isl_tree.specs.Literal.{LiteralHas}
use Rattle.isl_tree.specs.declared.statement.Stmt.{Stmt}
use Rattle.isl_tree.specs.declared.statement.Stmt.TheVariants.{Assume, Bind, Empty, Show}
use Rattle.isl_tree.specs.declared.statement.Expr.TheVariants as e
use Rattle.isl_state.specs.declared.list.ListPart.{ListPart}
use Rattle.isl_values.specs.Live.{IsLivePartOf}
use Rattle.isl_values.specs.State.{Kept, StateView, Moment, EachKept, value_at}
use Rattle.isl_values.specs.Selection.{Keeps}
use Rattle.isl_eval.specs.Spelled.{BytesSpell, OfTokens}
use Rattle.isl_eval.specs.Causes.{IsValid, Stops}
use Rattle.isl_eval.specs.Machine.{Answer, shown}
use Rattle.isl_eval.specs.Run.{Answers, Run, started}
use Rattle.isl_round_trip.specs.Written.{HasFewRemainders, IsOfKind}
use Rattle.isl_round_trip.specs.RoundTrip.{IsWritableValue, ReadsAs}

-- each value that is bound, also in a list, is of its kind, and one that a plain literal can write
abbrev pub AreWritable : StateView → Type 0
AreWritable state =
    EachKept (λ kept. (part : ListPart) → IsOfKind kept.kind (value_at part kept) × IsWritableValue (value_at part kept)) state

-- brackets and prefixes are not nested too deeply
abbrev pub IsShallow : List ℕ → Type 0
IsShallow text = ¬ OfTokens text (λ ts. is_too_deep ts ≡ true)

-- Whatever answers the text of the value, and whatever is assumed there, shows what is live of the value in printed order: the pieces that
-- have an element at an assumed valuation, and where nothing is assumed all of them.
abbrev pub ShowsLive : Moment → KeptValue → Type 0
ShowsLive before value =
    (last : Moment) (answer : Answer) → Answers before (printed value) last answer
    → (live : KeptValue) × IsLivePartOf before.state.assumed (ordered value) live
    × (answer ≡ record { bytes = printed live ++ 10 ∷ []; is_true = false; elements = 0 })

-- The answer is a line that shows the value. Its text is a statement, which shows a literal that has exactly the elements of the value, and
-- that reads as the value. Where the text is not too deep, and no piece has more remainders than a literal's may have, nothing that it
-- says is a cause to refuse it; and where it is answered, which takes the units of asking whether its pieces have elements, there at an
-- assumed valuation where something is assumed, its answer is the same line.
pub record IsShownAgain (after : Moment) (value : KeptValue) (answer : Answer) : Type 0 where
  pub line : answer.bytes ≡ printed value ++ 10 ∷ []
  pub again : Literal
  pub spelled : BytesSpell (printed value) (Show (e.Literal again))
  pub elements : (valuation : Valuation) (element : Element) → LiteralHas again valuation element ↔ Has value valuation element
  pub reads : ReadsAs again value
  pub valid : IsShallow (printed value) → HasFewRemainders value → IsValid after (printed value)
  pub answered : (last : Moment) (other : Answer) → Answers after (printed value) last other → other ≡ answer

-- a simple statement that shows an expression of which this is kept
abbrev pub ShowsKept : Kept → Moment → Stmt → Type 0
ShowsKept kept now Empty = ⊥
ShowsKept kept now (Bind name expr) = ⊥
ShowsKept kept now (Show expr) = Keeps now expr kept
ShowsKept kept now (Assume set) = ⊥

-- whatever value the statement shows, where it is what is answered and no list, is shown again
abbrev pub IsTakenAgain : Moment → Stmt → Moment → Answer → Type 0
IsTakenAgain before stmt after answer =
    (kept : Kept) → Stops before stmt (ShowsKept kept) → kept.second ≡ None → answer ≡ shown kept
    → IsShownAgain after kept.value answer

-- Whatever values the statements of a run show, they are shown again.
unfoldable pub AreTakenAgain : (before : Moment) (script : List (List ℕ)) (answers : List Answer) (after : Moment)
    → Run before script answers after → Type 0
unfolding Run
AreTakenAgain before [] [] after run = Unit {0}
AreTakenAgain before (bytes ∷ more) (answer ∷ answers) after run =
    IsTakenAgain (started before) run.1.stmt run.0 answer × AreTakenAgain run.0 more answers after run.2
AreTakenAgain before [] (answer ∷ answers) after run = Unit {0}
AreTakenAgain before (bytes ∷ more) [] after run = Unit {0}
