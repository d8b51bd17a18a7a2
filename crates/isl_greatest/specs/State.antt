-- inner: where the search stands: the numbers that are chosen, the case on trial, the best number of the cases before it, and how far its
-- trial is. Numbers are defined columns. (Feautrier, parametric integer programming)
use Rattle.std.specs.Prelude.{◌≡◌, ◌≢◌, ◌<◌, ◌≤◌, ℕ, ◌+◌, ◌-◌, ℤ, pos, ◌≤ℤ◌, ◌<ℤ◌, List, [], ◌∷◌, ◌++◌, length, slice_index_or, Option, Some, None, option_map, MatchOption}
use Rattle.isl_meter.specs.Gauge.{Gauge}
use Rattle.isl_piece.specs.declared.definition.Definition.{Definition}
use Rattle.isl_piece.specs.declared.row.Row.{Row}
use Rattle.isl_piece.specs.declared.row.RowKind.TheVariants.{Zero}
use Rattle.isl_piece.specs.declared.system.System.{System}
use Rattle.isl_piece.specs.Definition.{with_defined}
use Rattle.isl_piece.specs.System.{IsSystemWithin, free_columns}
use Rattle.isl_greatest_law.specs.Case.{At, CaseView}
use Rattle.isl_greatest_law.specs.Front.{IsGreatestOf}
use Rattle.isl_greatest_law.specs.Stage.{IsAsking, IsBounding, IsOnLevel}
use Rattle.isl_greatest.specs.declared.state.State.{State}
use Rattle.isl_greatest.specs.declared.state.Trial.{Trial}
use Rattle.isl_greatest.specs.declared.state.Trial.TheVariants.{Entering, Bounding, Asking, Comparing}
use Rattle.isl_greatest.specs.Problem.{ProblemView, IsListOf, cases_at}

-- ---- numbers as defined columns
-- the numbers of all columns
abbrev pub full : System → List ℤ → List ℤ
full s v = with_defined s.definitions v

-- the number of the last column
abbrev pub number : System → List ℤ → ℤ
number s v = slice_index_or (full s v) (length (full s v) - 1) (pos 0)

-- columns alone
pub record IsFrame (g : Gauge) (n : ℕ) (s : System) : Type 0 where
  pub within : IsSystemWithin g s
  pub rows : s.rows ≡ []
  pub free : free_columns s ≡ n

-- the columns, and one more
pub record IsCandidate (g : Gauge) (n : ℕ) (chosen cur : System) : Type 0 where
  pub frame : IsFrame g n cur
  pub definition : Definition
  pub is : cur.definitions ≡ chosen.definitions ++ definition ∷ []
  pub columns : cur.columns ≡ chosen.columns + 1

-- two numbers behind others
abbrev pub BothBehind : List ℤ → ℤ → ℤ → List ℤ → Type 0
BothBehind q y z all = all ≡ q ++ y ∷ z ∷ []

-- a system of one row, which is no equation
pub record IsQuestion (g : Gauge) (n : ℕ) (s : System) : Type 0 where
  pub within : IsSystemWithin g s
  pub free : free_columns s ≡ n
  pub row : Row
  pub rows : s.rows ≡ row ∷ []
  pub kind : row.kind ≢ Zero

-- ---- states
abbrev pub depth_of : State → ℕ
depth_of s = length s.chosen.definitions

abbrev pub case_at : ProblemView → ℕ → ℕ → CaseView
case_at p depth i = slice_index_or (cases_at p depth) i (record { tops = []; others = []; period = pos 1 })

-- there is a case on trial
pub record IsOnTrial (p : ProblemView) (depth i : ℕ) : Type 0 where
  pub depth_in : depth < length p.levels
  pub case_in : i < length (cases_at p depth)

abbrev pub IsTrialOf : Gauge → ProblemView → System → ℕ → Trial → Type 0
IsTrialOf g p chosen i Entering = Unit {0}
IsTrialOf g p chosen i (Bounding cur next) = IsCandidate g p.front chosen cur × IsOnTrial p (length chosen.definitions) i
IsTrialOf g p chosen i (Asking cur tried next) =
    IsCandidate g p.front chosen cur × IsOnTrial p (length chosen.definitions) i
    × (pos 0 ≤ℤ tried) × (tried <ℤ (case_at p (length chosen.definitions) i).period)
IsTrialOf g p chosen i (Comparing cur) = IsCandidate g p.front chosen cur × IsOnTrial p (length chosen.definitions) i

pub record IsState (g : Gauge) (p : ProblemView) (s : State) : Type 0 where
  pub chosen : IsFrame g p.front s.chosen
  pub depth_in : depth_of s ≤ length p.levels
  pub whole : depth_of s ≡ length p.levels → (s.case ≡ 0) × (s.best ≡ None) × (s.trial ≡ Entering)
  pub best : MatchOption s.best (Unit {0}) (IsCandidate g p.front s.chosen)
  pub trial : IsTrialOf g p s.chosen s.case s.trial

-- ---- what they say where the front has these numbers
abbrev pub best_at : Option System → List ℤ → Option ℤ
best_at best v = option_map (λ b. number b v) best

abbrev pub TrialSays : ℕ → CaseView → List ℤ → List ℤ → Trial → Type 0
TrialSays n c q v Entering = Unit {0}
TrialSays n c q v (Bounding cur next) = IsBounding c q (number cur v) next
TrialSays n c q v (Asking cur tried next) = IsAsking n c q (number cur v) tried next
TrialSays n c q v (Comparing cur) = IsGreatestOf (At c q) (number cur v)

pub record IsStage (p : ProblemView) (s : State) (v : List ℤ) : Type 0 where
  pub us : List ℤ
  pub is : full s.chosen v ≡ v ++ us
  pub count : length us ≡ depth_of s
  pub on : IsOnLevel (IsListOf p v) v us (cases_at p (depth_of s)) s.case (best_at s.best v)
  pub trial : TrialSays (p.front + depth_of s) (case_at p (depth_of s) s.case) (v ++ us) v s.trial
