-- inner: systems of points with two times, one before the other.
use Rattle.std.specs.Prelude.{◌≡◌, ℕ, ◌<◌, ◌^◌, ℤ, List, [], ◌∷◌, All, length}
use Rattle.isl_meter.specs.Gauge.{Gauge}
use Rattle.isl_math.specs.Order.{IsBefore}
use Rattle.isl_space.specs.Form.{width_of}
use Rattle.isl_space.specs.Name.{Name}
use Rattle.isl_space.specs.Shape.{form_of}
use Rattle.isl_space.specs.Valuation.{Valuation}
use Rattle.isl_piece.specs.declared.system.System.{System}
use Rattle.isl_piece.specs.System.{HoldsSystem, IsSystemWithin, free_columns}
use Rattle.isl_blocks.specs.Blocks.{block_at, picked, total}
use Rattle.isl_blocks.specs.Cases.{IsBeforeAt}
use Rattle.isl_relation.specs.Point.{Point}
use Rattle.isl_schedule.specs.Visits.{visit_widths, Visit}
use Rattle.isl_schedule.specs.declared.visits.Visits.{Visits}

-- the parameters and a point, with the one time, and with the other
abbrev pub first_blocks : List ℕ
first_blocks = 0 ∷ 1 ∷ 2 ∷ []

abbrev pub second_blocks : List ℕ
second_blocks = 0 ∷ 1 ∷ 3 ∷ []

-- the one system has the first time, the other the second, and they first differ at this place
abbrev pub HaveTimes : System → System → ℕ → List (List ℤ) → Type 0
HaveTimes one other at blocks =
    (HoldsSystem one (picked first_blocks blocks) × HoldsSystem other (picked second_blocks blocks))
    × IsBeforeAt at (block_at blocks 2) (block_at blocks 3)

-- the columns of the parameters, a point, and two times
abbrev pub pair_widths : ℕ → Visits → List ℕ
pair_widths params visits =
    let time = width_of (form_of visits.time.value) in
    params ∷ width_of (form_of visits.domain.value) ∷ time ∷ time ∷ []

-- the system is over the columns of the parameters, a point and its time
pub record IsOver (g : Gauge) (params : List Name) (visits : Visits) : Type 0 where
  pub within : IsSystemWithin g visits.system
  pub free : free_columns visits.system ≡ total (visit_widths (length params) visits)
  pub narrow : total (pair_widths (length params) visits) < 2 ^ 32

-- no point has a time of the one before a time of the other
abbrev pub IsNeverBefore : List Name → Visits → Visits → Type 0
IsNeverBefore params one other =
    (valuation : Valuation) (x t u : Point) → Visit params valuation x t one
    → Visit params valuation x u other → ¬ IsBefore t.numbers u.numbers

-- of those of one shape none has
abbrev pub IsSingleWith : List Name → Visits → Visits → Type 0
IsSingleWith params one other = form_of one.domain.value ≡ form_of other.domain.value → IsNeverBefore params one other

abbrev pub AreSingle : List Name → List Visits → Type 0
AreSingle params visits = All (λ one. All (λ other. IsSingleWith params one other) visits) visits
