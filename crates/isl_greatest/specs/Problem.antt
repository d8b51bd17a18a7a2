-- public: systems, and for each of their last columns the cases in which numbers go on. (Feautrier, parametric integer programming)
use Rattle.std.specs.Prelude.{◌≡◌, ◌<◌, ◌^◌, ℕ, ◌+◌, ℤ, pos, List, [], ◌++◌, All, length, slice_index_or}
use Rattle.isl_meter.specs.Gauge.{Gauge, IsWithin}
use Rattle.isl_piece.specs.declared.system.System.{System}
use Rattle.isl_piece.specs.Row.{IsRowWithin}
use Rattle.isl_piece.specs.System.{HoldRows}
use Rattle.isl_elim.specs.Elimination.{HoldsAtAny}
use Rattle.isl_greatest_law.specs.Case.{CaseView, HoldsCase, IsCase}
use Rattle.isl_greatest_law.specs.Stage.{IsLevel}

-- a case over n columns and one behind them, with its numbers within the limit
pub record IsCaseWithin (g : Gauge) (n : ℕ) (c : CaseView) : Type 0 where
  pub case : IsCase n c
  pub tops : All (IsRowWithin g) c.tops
  pub others : All (IsRowWithin g) c.others
  pub period : IsWithin g c.period

-- the case of the rows of a system over n columns and one behind them
pub record IsCaseOf (g : Gauge) (n : ℕ) (s : System) (c : CaseView) : Type 0 where
  pub within : IsCaseWithin g n c
  pub points : (point : List ℤ) → HoldRows s.rows point → HoldsCase c point
  pub back : (point : List ℤ) → HoldsCase c point → HoldRows s.rows point

-- systems over the columns of the front and others behind them, and the cases of each of these
pub record ProblemView : Type 0 where
  pub front : ℕ
  pub systems : List System
  pub levels : List (List CaseView)

-- the cases behind so many of the columns behind the front
abbrev pub cases_at : ProblemView → ℕ → List CaseView
cases_at p depth = slice_index_or p.levels depth []

-- the numbers stand behind those of the front in a point of one of the systems
abbrev pub IsListOf : ProblemView → List ℤ → List ℤ → Type 0
IsListOf p v us = (length us ≡ length p.levels) × HoldsAtAny p.systems (v ++ us)

-- at each place some case holds exactly where the numbers go on
pub record IsProblem (g : Gauge) (p : ProblemView) : Type 0 where
  pub cases : (depth : ℕ) → depth < length p.levels → All (IsCaseWithin g (p.front + depth)) (cases_at p depth)
  pub points : (v us : List ℤ) → length v ≡ p.front → length us < length p.levels
      → IsLevel (IsListOf p v) v us (cases_at p (length us))
  pub some : 0 < length p.levels
  pub fits : p.front + length p.levels + 1 < 2 ^ 64
