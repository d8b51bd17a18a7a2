-- public: what is called at which times, as systems. (isl manual, on schedules and on code generation)
use Rattle.std.specs.Prelude.{◌≡◌, ◌↔◌, ℕ, ◌+◌, ◌≤◌, ℤ, Bool, true, false, List, [], ◌∷◌, ◌++◌, All, AllPairs, Any, length}
use Rattle.isl_meter.specs.Gauge.{Gauge}
use Rattle.isl_space.specs.Form.{Form, width_of, IsNamed}
use Rattle.isl_space.specs.Limits.{most_coordinates}
use Rattle.isl_space.specs.Name.{Name}
use Rattle.isl_space.specs.Shape.{form_of}
use Rattle.isl_space.specs.SpaceForm.{SpaceForm, set_of, map_of}
use Rattle.isl_space.specs.Valuation.{Valuation, values_of}
use Rattle.isl_piece.specs.declared.row.Row.{Row}
use Rattle.isl_piece.specs.System.{HoldsSystem, IsSystemWithin, free_columns}
use Rattle.isl_tower.specs.Bounded.{IsBounded}
use Rattle.isl_union.specs.KeptValue.{KeptValue, Has}
use Rattle.isl_relation.specs.Point.{Point, IsPoint}
use Rattle.isl_schedule.specs.Schedule.{IsPair, IsVisitedAt}
use Rattle.isl_calls.specs.declared.calls.Calls.{Calls}

-- ---- columns
-- behind the parameters stand the numbers of the time, and then those of the point, unless it is the time itself
abbrev pub numbers_behind : Bool → List ℤ → List ℤ → List ℤ
numbers_behind true x t = t
numbers_behind false x t = t ++ x

-- how many these are, of forms of so many coordinates
abbrev pub width_behind : Bool → ℕ → ℕ → ℕ
width_behind true domain time = time
width_behind false domain time = time + domain

-- ---- calls of points of one form
-- x is called at t
pub record IsCalledAt (params : List Name) (valuation : Valuation) (x t : Point) (calls : Calls) : Type 0 where
  pub domain : x.form ≡ form_of calls.domain.value
  pub time : t.form ≡ form_of calls.time.value
  pub point : IsPoint x
  pub at : IsPoint t
  pub own : calls.is_own ≡ true → t ≡ x
  pub holds : HoldsSystem calls.system (values_of params valuation ++ numbers_behind calls.is_own x.numbers t.numbers)

-- A system over its columns behind so many parameters, which defines none, and has finitely many points wherever these have numbers.
-- Forms are as narrow as those of values, and names may stand in a literal; no pair is called; where each point is its time, both have one
-- form.
pub record AreCalls (g : Gauge) (params : ℕ) (calls : Calls) : Type 0 where
  pub within : IsSystemWithin g calls.system
  pub plain : calls.system.definitions ≡ []
  pub free : free_columns calls.system
      ≡ params + width_behind calls.is_own (width_of (form_of calls.domain.value)) (width_of (form_of calls.time.value))
  pub bounded : IsBounded calls.system params
  pub narrow : (width_of (form_of calls.domain.value) ≤ most_coordinates) × (width_of (form_of calls.time.value) ≤ most_coordinates)
  pub named : IsNamed (form_of calls.domain.value)
  pub flat : ¬ IsPair (form_of calls.domain.value)
  pub same : calls.is_own ≡ true → form_of calls.domain.value ≡ form_of calls.time.value

-- ---- the calls of a value
-- of a set
abbrev pub IsSetForm : SpaceForm → Type 0
IsSetForm (set_of form) = Unit {0}
IsSetForm (map_of from to) = ⊥

-- the value is one piece: the set of the form with these rows
abbrev pub IsSetOf : Form → List Row → KeptValue → Type 0
IsSetOf form rows value = value.pieces ≡ record { space = set_of form; definitions = []; rows = rows } ∷ []

-- the only calls are of the points of this form at which these rows hold, each at itself
pub record AreOwnCalls (form : Form) (rows : List Row) (calls : List Calls) : Type 0 where
  pub one : Calls
  pub only : calls ≡ one ∷ []
  pub own : one.is_own ≡ true
  pub time : form_of one.time.value ≡ form
  pub rows_are : one.system.rows ≡ rows

-- all times have one form, and all calls the same layout
pub record AreAlike (calls : List Calls) : Type 0 where
  pub times : All (λ a. All (λ b. form_of a.time.value ≡ form_of b.time.value) calls) calls
  pub layout : All (λ a. All (λ b. a.is_own ≡ b.is_own) calls) calls

-- At each valuation each point that is visited is called once, at its time, and nothing else is. Where all pieces are of sets, each point is
-- its time; of one set that is by its own rows.
pub record AreCallsOf (g : Gauge) (value : KeptValue) (calls : List Calls) : Type 0 where
  pub each : All (AreCalls g (length value.params)) calls
  pub alike : AreAlike calls
  pub exact : (valuation : Valuation) (x t : Point)
      → Any (IsCalledAt value.params valuation x t) calls ↔ IsVisitedAt (Has value valuation) x t
  pub once : (valuation : Valuation) (x t : Point)
      → AllPairs (λ a b. IsCalledAt value.params valuation x t a → ¬ IsCalledAt value.params valuation x t b) calls
  pub sets : All (λ piece. IsSetForm piece.space) value.pieces → All (λ c. c.is_own ≡ true) calls
  pub own : (form : Form) (rows : List Row) → IsSetOf form rows value → AreOwnCalls form rows calls
