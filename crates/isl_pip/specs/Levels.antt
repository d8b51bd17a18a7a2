-- inner: the cases of each column, by towers of projections.
use Rattle.std.specs.Prelude.{◌≡◌, ◌↔◌, ◌<◌, ◌+◌, ℕ, ℤ, List, [], All, Any, length, slice_index_or}
use Rattle.std.specs.List.{AllZip}
use Rattle.isl_meter.specs.Gauge.{Gauge}
use Rattle.isl_piece.specs.declared.system.System.{System}
use Rattle.isl_piece.specs.System.{IsSystemWithin, free_columns}
use Rattle.isl_elim.specs.Elimination.{HoldsAtAny}
use Rattle.isl_tower.specs.Tower.{IsTowerOf}
use Rattle.isl_greatest_law.specs.Case.{CaseView, HoldsCase}
use Rattle.isl_greatest.specs.Problem.{ProblemView, IsCaseWithin}
use Rattle.isl_pip_law.specs.Levels.{AreCasesAt}

-- systems over so many columns that define none
pub record ArePlainOver (g : Gauge) (count : ℕ) (systems : List System) : Type 0 where
  pub within : All (IsSystemWithin g) systems
  pub plain : All (λ s. s.definitions ≡ []) systems
  pub columns : All (λ s. free_columns s ≡ count) systems

-- their towers over the front
pub record AreTowersOf (g : Gauge) (front : ℕ) (systems : List System) (made : List (List (List System))) : Type 0 where
  pub towers : AllZip (λ s levels. IsTowerOf s front levels) systems made
  pub within : All (All (All (IsSystemWithin g))) made
  pub plain : All (All (All (λ s. s.definitions ≡ []))) made

-- cases over n columns and one more, of which some holds exactly where some of the systems does
pub record AreCasesOf (g : Gauge) (n : ℕ) (systems : List System) (cases : List CaseView) : Type 0 where
  pub within : All (IsCaseWithin g n) cases
  pub points : (point : List ℤ) → Any (λ c. HoldsCase c point) cases ↔ HoldsAtAny systems point

-- the same of the systems that towers have at a height
pub record AreCasesOn (g : Gauge) (n height : ℕ) (towers : List (List (List System))) (cases : List CaseView) : Type 0 where
  pub within : All (IsCaseWithin g n) cases
  pub points : AreCasesAt height towers cases

-- the cases of each column behind the front
abbrev pub AreLevelsOf : Gauge → ℕ → List (List (List System)) → List (List CaseView) → Type 0
AreLevelsOf g front towers levels =
    (depth : ℕ) → depth < length levels → AreCasesOn g (front + depth) (depth + 1) towers (slice_index_or levels depth [])

-- the systems, with so many columns behind the front
pub record IsProblemOf (ahead behind : ℕ) (own : List System) (p : ProblemView) : Type 0 where
  pub front : p.front ≡ ahead
  pub systems : p.systems ≡ own
  pub width : length p.levels ≡ behind
