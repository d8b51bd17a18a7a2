-- public: trees of greatest lists. (Feautrier, parametric integer programming)
use Rattle.std.specs.Prelude.{◌≡◌, ℕ, ℤ, pos, neg_ℤ, List, length, map, option_map, Option, Some, None}
use Rattle.isl_meter.specs.Gauge.{Gauge}
use Rattle.isl_piece.specs.declared.system.System.{System}
use Rattle.isl_piece.specs.System.{HoldsSystem}
use Rattle.isl_quast.specs.declared.tree.Quast.{Quast}
use Rattle.isl_quast.specs.Tree.{quast_at, HasWidth, IsQuastOver}
use Rattle.isl_greatest_law.specs.Front.{GivesGreatest, IsGreatest}
use Rattle.isl_greatest.specs.declared.search.Settled.{Settled}
use Rattle.isl_greatest.specs.declared.search.Settled.TheVariants.{Ends, Away, Splits}
use Rattle.isl_greatest.specs.declared.search.Split.{Split}
use Rattle.isl_greatest.specs.declared.search.Turn.{Turn}
use Rattle.isl_greatest.specs.declared.search.Turn.TheVariants.{Goes, Stops}
use Rattle.isl_greatest.specs.declared.state.State.{State}
use Rattle.isl_greatest.specs.Decision.{IsContext}
use Rattle.isl_greatest.specs.Next.{numbers_behind}
use Rattle.isl_greatest.specs.Problem.{ProblemView, IsListOf}
use Rattle.isl_greatest.specs.State.{full, IsFrame, IsQuestion, IsStage, IsState}

-- where there is a list, there is a greatest one
abbrev pub HasGreatest : (List ℤ → Type 0) → Type 0
HasGreatest P = (us : List ℤ) → P us → (ys : List ℤ) × IsGreatest P ys

-- at all numbers in front
abbrev pub AllHaveGreatest : ProblemView → Type 0
AllHaveGreatest p = (v : List ℤ) → length v ≡ p.front → HasGreatest (IsListOf p v)

-- the tree gives the negatives of the greatest list, or nothing where there is none, wherever the numbers in front are among these
pub record IsTreeWithin (g : Gauge) (p : ProblemView) (Context : List ℤ → Type 0) (tree : Quast) : Type 0 where
  pub gives : (v : List ℤ) → length v ≡ p.front → Context v → GivesGreatest (IsListOf p v) (option_map (map neg_ℤ) (quast_at tree v))
  pub over : IsQuastOver g p.front tree
  pub width : HasWidth (length p.levels) tree

-- the state is right wherever the context holds
abbrev pub IsReached : ProblemView → System → State → Type 0
IsReached p context s = (v : List ℤ) → length v ≡ p.front → HoldsSystem context v → IsStage p s v

-- the greatest list is there, or there is none
abbrev pub EndsAt : ProblemView → Option System → List ℤ → Type 0
EndsAt p None v = GivesGreatest (IsListOf p v) None
EndsAt p (Some numbers) v = GivesGreatest (IsListOf p v) (Some (numbers_behind p numbers v))

pub record AreEnds (g : Gauge) (p : ProblemView) (context : System) (end : Option System) : Type 0 where
  pub frame : (numbers : System) → end ≡ Some numbers → IsFrame g p.front numbers × (length numbers.definitions ≡ length p.levels)
  pub ends : (v : List ℤ) → length v ≡ p.front → HoldsSystem context v → EndsAt p end v

-- both contexts have points; where the context holds, one of them does, as the question tells
pub record IsSplit (g : Gauge) (p : ProblemView) (context : System) (s : Split) : Type 0 where
  pub asked : IsQuestion g p.front s.question
  pub first : IsContext g p.front s.inside
  pub second : IsContext g p.front s.outside
  pub holds : (v : List ℤ) → length v ≡ p.front → HoldsSystem context v → HoldsSystem s.question v → HoldsSystem s.inside v
  pub fails : (v : List ℤ) → length v ≡ p.front → HoldsSystem context v → (¬ HoldsSystem s.question v) → HoldsSystem s.outside v
  pub after_yes : IsState g p s.yes
  pub after_no : IsState g p s.other
  pub reached_yes : IsReached p s.inside s.yes
  pub reached_no : IsReached p s.outside s.other

abbrev pub IsSettled : Gauge → ProblemView → System → Settled → Type 0
IsSettled g p context (Ends end) = AreEnds g p context end
IsSettled g p context Away = (v : List ℤ) → length v ≡ p.front → HoldsSystem context v → (r : Option (List ℤ)) → ¬ GivesGreatest (IsListOf p v) r
IsSettled g p context (Splits split) = IsSplit g p context split

-- the search goes on from a state that is right wherever the context holds; or it stops there
abbrev pub IsTurn : Gauge → ProblemView → System → Turn → Type 0
IsTurn g p context (Goes state) = IsState g p state × IsReached p context state
IsTurn g p context (Stops settled) = IsSettled g p context settled
