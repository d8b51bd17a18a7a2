-- inner: one step of the search.
use Rattle.std.specs.Prelude.{◌≡◌, ◌<◌, ℕ, ◌+◌, ℤ, List, length, drop, slice_index_or, Option, Some, None}
use Rattle.isl_meter.specs.Gauge.{Gauge}
use Rattle.isl_piece.specs.declared.row.Row.{Row}
use Rattle.isl_piece.specs.declared.system.System.{System}
use Rattle.isl_piece.specs.Row.{HoldsRow}
use Rattle.isl_piece.specs.System.{HoldsSystem}
use Rattle.isl_greatest_law.specs.Case.{CaseView, IsSteep}
use Rattle.isl_greatest_law.specs.Front.{GivesGreatest}
use Rattle.isl_greatest.specs.declared.next.Step.{Step}
use Rattle.isl_greatest.specs.declared.next.Step.TheVariants.{Goes, Asks, Ends, Away}
use Rattle.isl_greatest.specs.declared.state.State.{State}
use Rattle.isl_greatest.specs.Problem.{ProblemView, IsListOf}
use Rattle.isl_greatest.specs.State.{depth_of, full, IsFrame, IsQuestion, IsStage, IsState}

-- what is true where the one state says so is what the other one says
abbrev pub Leads : ProblemView → State → State → Type 0
Leads p s t = (v : List ℤ) → length v ≡ p.front → IsStage p s v → IsStage p t v

-- the numbers of the columns behind the front
abbrev pub numbers_behind : ProblemView → System → List ℤ → List ℤ
numbers_behind p s v = drop p.front (full s v)

-- the greatest list
abbrev pub EndsIn : ProblemView → State → Option System → Type 0
EndsIn p s None = (v : List ℤ) → length v ≡ p.front → IsStage p s v → GivesGreatest (IsListOf p v) None
EndsIn p s (Some numbers) = (v : List ℤ) → length v ≡ p.front → IsStage p s v → GivesGreatest (IsListOf p v) (Some (numbers_behind p numbers v))

-- the state goes on; or it asks, and goes on as is answered; or the greatest list is there; or there are lists, and none is greatest
pub record GoesOn (g : Gauge) (p : ProblemView) (s t : State) : Type 0 where
  pub state : IsState g p t
  pub leads : Leads p s t

pub record AsksFor (g : Gauge) (p : ProblemView) (s : State) (question : System) (so other : State) : Type 0 where
  pub asked : IsQuestion g p.front question
  pub after_yes : IsState g p so
  pub after_no : IsState g p other
  pub holds : (v : List ℤ) → length v ≡ p.front → IsStage p s v → HoldsSystem question v → IsStage p so v
  pub fails : (v : List ℤ) → length v ≡ p.front → IsStage p s v → (¬ HoldsSystem question v) → IsStage p other v

pub record IsEnd (g : Gauge) (p : ProblemView) (s : State) (end : Option System) : Type 0 where
  pub frame : (numbers : System) → end ≡ Some numbers → IsFrame g p.front numbers × (length numbers.definitions ≡ length p.levels)
  pub ends : EndsIn p s end

abbrev pub IsNextOf : Gauge → ProblemView → State → Step → Type 0
IsNextOf g p s (Goes t) = GoesOn g p s t
IsNextOf g p s (Asks question so other) = AsksFor g p s question so other
IsNextOf g p s (Ends end) = IsEnd g p s end
IsNextOf g p s Away = (v : List ℤ) → length v ≡ p.front → IsStage p s v → (r : Option (List ℤ)) → ¬ GivesGreatest (IsListOf p v) r

-- ---- a row that fails
-- the row is the next one of the others
abbrev pub IsOtherAt : CaseView → ℕ → Row → Type 0
IsOtherAt c next row = (next < length c.others) × (row ≡ slice_index_or c.others next row)

-- it is no bound from below, where nothing bounds the numbers from above
abbrev pub IsAsked : ProblemView → State → CaseView → Row → Type 0
IsAsked p s c row = length c.tops ≡ 0 → ¬ IsSteep (p.front + depth_of s) row

-- the state behind a row that fails at the number
pub record IsFailed (g : Gauge) (p : ProblemView) (s : State) (row : Row) (cur : System) (other : State) : Type 0 where
  pub state : IsState g p other
  pub fails : (v : List ℤ) → length v ≡ p.front → IsStage p s v → (¬ HoldsRow row (full cur v)) → IsStage p other v
