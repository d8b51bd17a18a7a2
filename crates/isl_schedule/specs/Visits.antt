-- public: systems of points and their times. (isl manual, on schedules)
use Rattle.std.specs.Prelude.{◌≡◌, ◌↔◌, ℕ, ℤ, List, [], ◌∷◌, length}
use Rattle.std.specs.List.{AllZip}
use Rattle.isl_meter.specs.Gauge.{Gauge}
use Rattle.isl_space.specs.Form.{width_of}
use Rattle.isl_space.specs.Name.{Name}
use Rattle.isl_space.specs.Shape.{form_of}
use Rattle.isl_space.specs.SpaceForm.{SpaceForm, set_of, map_of}
use Rattle.isl_space.specs.Valuation.{Valuation, values_of}
use Rattle.isl_piece.specs.Piece.{PieceView}
use Rattle.isl_piece.specs.declared.system.System.{System}
use Rattle.isl_piece.specs.System.{HoldsSystem, IsSystemWithin, free_columns}
use Rattle.isl_blocks.specs.Blocks.{block_at, numbers_of, picked, total, widths_of}
use Rattle.isl_union.specs.KeptValue.{HasElement}
use Rattle.isl_union.specs.Piece.{kept_piece}
use Rattle.isl_relation.specs.Point.{Point, IsPoint}
use Rattle.isl_schedule.specs.Schedule.{domain_form, time_form, IsVisitedAt}
use Rattle.isl_schedule.specs.declared.visits.Visits.{Visits}

-- the system over blocks of these widths holds where P is so of them
pub record IsOverBlocks (g : Gauge) (widths : List ℕ) (P : List (List ℤ) → Type 0) (made : System) : Type 0 where
  pub points : (blocks : List (List ℤ)) → widths_of blocks ≡ widths → HoldsSystem made (numbers_of blocks) ↔ P blocks
  pub within : IsSystemWithin g made
  pub free : free_columns made ≡ total widths

-- ---- one list of visits
-- the columns of the parameters, a point, and its time
abbrev pub visit_widths : ℕ → Visits → List ℕ
visit_widths params visits = params ∷ width_of (form_of visits.domain.value) ∷ width_of (form_of visits.time.value) ∷ []

abbrev pub visit_blocks : List Name → Valuation → Point → Point → List (List ℤ)
visit_blocks params valuation x t = values_of params valuation ∷ x.numbers ∷ t.numbers ∷ []

-- x is visited at t
pub record Visit (params : List Name) (valuation : Valuation) (x t : Point) (visits : Visits) : Type 0 where
  pub domain : x.form ≡ form_of visits.domain.value
  pub time : t.form ≡ form_of visits.time.value
  pub point : IsPoint x
  pub at : IsPoint t
  pub holds : HoldsSystem visits.system (numbers_of (visit_blocks params valuation x t))

-- the visits that the piece tells
pub record IsVisitOf (g : Gauge) (params : List Name) (piece : PieceView) (visits : Visits) : Type 0 where
  pub domain : form_of visits.domain.value ≡ domain_form piece.space
  pub time : form_of visits.time.value ≡ time_form piece.space
  pub visited : (valuation : Valuation) (x t : Point)
      → IsVisitedAt (λ element. HasElement params valuation element (kept_piece piece)) x t ↔ Visit params valuation x t visits
  pub within : IsSystemWithin g visits.system
  pub free : free_columns visits.system ≡ total (visit_widths (length params) visits)

-- one for each piece
abbrev pub AreVisitsOf : Gauge → List Name → List PieceView → List Visits → Type 0
AreVisitsOf g params pieces visits = AllZip (IsVisitOf g params) pieces visits

-- ---- the points of a set
-- the columns of the parameters, a point, and itself
abbrev pub own_widths : ℕ → ℕ → List ℕ
own_widths params width = params ∷ width ∷ width ∷ []

-- the system holds at the point, and the time is the point
abbrev pub IsAtItself : System → List (List ℤ) → Type 0
IsAtItself system blocks = HoldsSystem system (picked (0 ∷ 1 ∷ []) blocks) × (block_at blocks 1 ≡ block_at blocks 2)

-- the system over the parameters, a point of the space, and its time
abbrev pub IsTimedBy : Gauge → ℕ → SpaceForm → System → System → Type 0
IsTimedBy g params (set_of form) system made = IsOverBlocks g (own_widths params (width_of form)) (IsAtItself system) made
IsTimedBy g params (map_of from to) system made = made ≡ system
