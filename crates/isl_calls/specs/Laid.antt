-- inner: the visits of pieces, laid out by their times.
use Rattle.std.specs.Prelude.{◌≡◌, ◌↔◌, ℕ, ◌+◌, Bool, true, false, List, [], All, length}
use Rattle.std.specs.List.{AllZip}
use Rattle.isl_meter.specs.Gauge.{Gauge}
use Rattle.isl_space.specs.Form.{width_of}
use Rattle.isl_space.specs.Name.{Name}
use Rattle.isl_space.specs.Shape.{form_of}
use Rattle.isl_space.specs.Valuation.{Valuation}
use Rattle.isl_piece.specs.Piece.{PieceView}
use Rattle.isl_piece.specs.System.{IsSystemWithin, free_columns}
use Rattle.isl_union.specs.KeptValue.{HasElement}
use Rattle.isl_union.specs.Piece.{kept_piece, IsPieceOf}
use Rattle.isl_relation.specs.Point.{Point}
use Rattle.isl_schedule.specs.Schedule.{domain_form, time_form, IsVisitedAt}
use Rattle.isl_schedule.specs.Visits.{IsVisitOf}
use Rattle.isl_schedule.specs.declared.visits.Visits.{Visits}
use Rattle.isl_calls.specs.Calls.{width_behind, IsCalledAt, IsSetForm}
use Rattle.isl_calls.specs.declared.calls.Calls.{Calls}

-- what the piece tells to be visited is called, in this layout; by the piece's own system where each point is its time
pub record IsLaidOut (g : Gauge) (params : List Name) (is_own : Bool) (piece : PieceView) (calls : Calls) : Type 0 where
  pub domain : form_of calls.domain.value ≡ domain_form piece.space
  pub time : form_of calls.time.value ≡ time_form piece.space
  pub own : calls.is_own ≡ is_own
  pub same : is_own ≡ true → form_of calls.domain.value ≡ form_of calls.time.value
  pub called : (valuation : Valuation) (x t : Point)
      → IsVisitedAt (λ element. HasElement params valuation element (kept_piece piece)) x t ↔ IsCalledAt params valuation x t calls
  pub within : IsSystemWithin g calls.system
  pub plain : calls.system.definitions ≡ []
  pub system : is_own ≡ true → calls.system ≡ piece.system
  pub free : free_columns calls.system
      ≡ length params + width_behind is_own (width_of (form_of calls.domain.value)) (width_of (form_of calls.time.value))

-- the piece, whatever parameters it has, laid out so that each point is its time
abbrev pub IsOwnLaid : PieceView → Calls → Type 0
IsOwnLaid piece calls =
    (g : Gauge) (names : List Name) → IsPieceOf names piece → IsSystemWithin g piece.system → IsLaidOut g names true piece calls

-- the piece that has these visits over so many parameters, laid out with the times before the points
abbrev pub IsTimedLaid : ℕ → Visits → Calls → Type 0
IsTimedLaid params visits calls = (g : Gauge) (names : List Name) (piece : PieceView) → length names ≡ params → IsVisitOf g names piece visits
    → IsLaidOut g names false piece calls

-- one for each piece, all in one layout; where all pieces are of sets, each point is its time
pub record AreLaidOut (g : Gauge) (params : List Name) (pieces : List PieceView) (calls : List Calls) : Type 0 where
  pub is_own : Bool
  pub each : AllZip (IsLaidOut g params is_own) pieces calls
  pub sets : All (λ piece. IsSetForm piece.space) pieces → is_own ≡ true
