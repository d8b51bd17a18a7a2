-- public: what simple statements do, and a statement by them. (the iscc chapter of the barvinok manual)
use Rattle.std.specs.Prelude.{◌≡◌, ◌↔◌, ℕ, Bool, true, false, ◌&&◌, IsTrue, if◌then◌else◌, List, [], ◌∷◌, ◌++◌, Option, None, Some}
use Rattle.std.specs.Prelude.{codes, length}
use Rattle.isl_meter.specs.Gauge.{IsCharged}
use Rattle.isl_space.specs.Element.{Element}
use Rattle.isl_space.specs.Name.{Name}
use Rattle.isl_union.specs.KeptValue.{KeptValue}
use Rattle.isl_print.specs.Printed.{printed}
use Rattle.isl_scan.specs.ListingText.{listing_text}
use Rattle.isl_tree.specs.declared.statement.Binary.{Binary}
use Rattle.isl_tree.specs.declared.statement.Expr.{Expr, Row', Prefix', Any', Last', Post'}
use Rattle.isl_tree.specs.declared.statement.Expr as e
use Rattle.isl_tree.specs.declared.words.Question.{Question}
use Rattle.isl_tree.specs.declared.words.Question.TheVariants as question
use Rattle.isl_tree.specs.declared.statement.Stmt.{Stmt}
use Rattle.isl_tree.specs.declared.statement.Stmt.TheVariants.{Empty, Bind, Show, Assume}
use Rattle.isl_flat.specs.Flat.{flat}
use Rattle.isl_eval.specs.Params.{HoldsSome}
use Rattle.isl_state.specs.declared.list.ListPart.TheVariants.{First}
use Rattle.isl_kinds.specs.Typed.{declared_in, declared_of}
use Rattle.isl_values.specs.State.{Kept, Moment, Binds, Narrows, forgotten, scope_of}
use Rattle.isl_values.specs.Selection.{Keeps, SelectsIn}
use Rattle.isl_values.specs.Ends.{Elements, GoesOn}
use Rattle.isl_eval.specs.Tests.{ends_with_test, RowSays, TestHolds}
use Rattle.isl_eval.specs.Claims.{ProvesTest}
use Rattle.isl_eval.specs.Listed.{IsListed}
use Rattle.isl_eval.specs.Asked.{question_of}
use Rattle.isl_eval.specs.Coded.{IsCodeOf}
use Rattle.isl_eval.specs.Trees.{IsTextOfTrees}
use Rattle.isl_eval.specs.Ended.{StatementEnds}

-- ---- answers
-- the bytes of an answer, whether it is `True`, and how many elements it lists
pub record Answer : Type 0 where
  pub bytes : List ℕ
  pub is_true : Bool
  pub elements : ℕ

-- what bindings, assumptions and empty statements answer
abbrev pub nothing : Answer
nothing = record { bytes = []; is_true = false; elements = 0 }

-- what is kept, in its printed form: a value, or the two of a list in round brackets
abbrev pub text_of_two : KeptValue → Option KeptValue → List ℕ
text_of_two value None = printed value
text_of_two value (Some second) = codes "(" ++ printed value ++ codes ", " ++ printed second ++ codes ")"

-- the line that shows it
abbrev pub shown : Kept → Answer
shown kept = record { bytes = text_of_two kept.value kept.second ++ 10 ∷ []; is_true = false; elements = 0 }

-- the line that answers a test, and the lines behind it
abbrev pub told : Bool → List ℕ → Answer
told holds lines = record { bytes = (if holds then codes "True" else codes "False") ++ 10 ∷ lines; is_true = holds; elements = 0 }

-- the line that lists elements
abbrev pub listed : List Element → Answer
listed elements = record { bytes = listing_text elements ++ 10 ∷ []; is_true = false; elements = length elements }

-- the lines of loops, of their calls or of trees, each with its line feed
abbrev pub coded : List ℕ → Answer
coded text = record { bytes = text; is_true = false; elements = 0 }

-- ---- what is shown of an expression
abbrev pub ShowsValue : Moment → Expr → Answer → Type 0
ShowsValue before expr answer = (kept : Kept) × Keeps before expr kept × (answer ≡ shown kept)

-- whether a test holds, over these names, with the proofs of its claims where it does and they are asked for
abbrev pub ShowsTest : Moment → List Name → Answer → Binary → Elements → Elements → Type 0
ShowsTest before names answer test P Q =
    (holds : Bool) × (lines : List ℕ) × (IsTrue holds ↔ TestHolds before.state test P Q)
    × ProvesTest (holds && before.options.cert) before.state names test P Q lines × (answer ≡ told holds lines)

-- that of a row with a test at its end, or the value
abbrev pub ShowsRow : Bool → Type 0 → Moment → Expr → Answer → Type 0
ShowsRow true Shown before expr answer = Shown
ShowsRow false Shown before expr answer = ShowsValue before expr answer

-- what is asked of an operand that declares these names and selects these elements: these, where parameters have their given numbers; or
-- loops that visit them; or trees of the least ones; or the value of the whole
abbrev pub ShowsQuestion : Question → Moment → Expr → List Name → Elements → Answer → Type 0
ShowsQuestion question.Elements before whole names P answer =
    (listing : List Element) × IsListed (λ element. P before.options.at element) listing × (answer ≡ listed listing)
ShowsQuestion question.Loops before whole names P answer =
    (text : List ℕ) × IsCodeOf before.state before.meter before.options names P text × (answer ≡ coded text)
ShowsQuestion question.Trees before whole names P answer = (text : List ℕ) × IsTextOfTrees before.state names P text × (answer ≡ coded text)
ShowsQuestion question.Value before whole names P answer = ShowsValue before whole answer

abbrev pub Shows : Moment → Expr → Answer → Type 0
Shows before (e.Name name) answer = ShowsValue before (e.Name name) answer
Shows before (e.Literal literal) answer = ShowsValue before (e.Literal literal) answer
Shows before (Row' s first t links) answer =
    ShowsRow (ends_with_test links)
    (RowSays (ShowsTest before (declared_of (scope_of before.state) (Row' s first t links)) answer) before.state first links) before
    (Row' s first t links) answer
Shows before (Prefix' word s operand) answer =
    ShowsQuestion (question_of word) before (Prefix' word s operand) (declared_in (scope_of before.state) operand)
    (λ valuation element. SelectsIn before.state First operand valuation element) answer
Shows before (Any' r source s sink t schedule) answer = ShowsValue before (Any' r source s sink t schedule) answer
Shows before (Last' r source s sink t schedule) answer = ShowsValue before (Last' r source s sink t schedule) answer
Shows before (Post' s operand t postfixes) answer = ShowsValue before (Post' s operand t postfixes) answer

-- ---- simple statements
-- What is done to what is bound and assumed, and what is answered. An assumption leaves those assumed valuations at which one formula of it
-- holds, and takes from each value that is bound exactly the pieces that have no element there.
abbrev pub Does : Moment → Stmt → Moment → Answer → Type 0
Does before Empty after answer = (after.state ≡ before.state) × (answer ≡ nothing)
Does before (Show expr) after answer = (after.state ≡ before.state) × Shows before expr answer
Does before (Assume set) after answer = Narrows before.state set.params (HoldsSome set) after.state × (answer ≡ nothing)
Does before (Bind name expr) after answer = ((kept : Kept) × Keeps before expr kept × Binds before.state name kept after.state)
    × (answer ≡ nothing)

-- From one moment a simple statement leads to another, with this answer. Nothing ends its evaluation, and units alone were used.
pub record Step (before : Moment) (stmt : Stmt) (after : Moment) (answer : Answer) : Type 0 where
  pub does : Does before stmt after answer
  pub goes_on : GoesOn (StatementEnds before stmt)
  pub meter : IsCharged before.meter after.meter
  pub options : after.options ≡ before.options

-- ---- statements
-- One after another, the last with this answer, and the others with none.
unfoldable pub Steps : Moment → List Stmt → Moment → Answer → Type 0
Steps before [] after answer = ⊥
Steps before (stmt ∷ []) after answer = Step before stmt after answer
Steps before (stmt ∷ more) after answer = (next : Moment) × Step before stmt next nothing × Steps next more after answer

-- the names of what was chosen once are forgotten
abbrev pub behind : Moment → Moment
behind now = record now { state = forgotten now.state }

-- A statement does what its simple statements do, one after another; the names that these bind for what is chosen once are gone then.
abbrev pub Performs : Moment → Stmt → Moment → Answer → Type 0
Performs before stmt after answer = (now : Moment) × Steps before (flat stmt) now answer × (after ≡ behind now)
