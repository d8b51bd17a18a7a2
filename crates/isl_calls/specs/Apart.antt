-- inner: calls that share no point.
use Rattle.std.specs.Prelude.{◌≡◌, ◌↔◌, ℤ, List, [], All, AllPairs, Any, length}
use Rattle.isl_meter.specs.Gauge.{Gauge}
use Rattle.isl_space.specs.Form.{Form}
use Rattle.isl_space.specs.Shape.{form_of}
use Rattle.isl_piece.specs.declared.system.System.{System}
use Rattle.isl_piece.specs.System.{HoldsSystem, IsSystemWithin, free_columns}
use Rattle.isl_elim.specs.Elimination.{HoldsAtAny}
use Rattle.isl_difference.specs.Difference.{AreDisjoint}
use Rattle.isl_calls.specs.declared.calls.Calls.{Calls}

-- the form of the points that are called
abbrev pub called_form : Calls → Form
called_form c = form_of c.domain.value

-- some of the calls of points of the form have this one
abbrev pub HoldsFor : Form → List Calls → List ℤ → Type 0
HoldsFor form calls point = Any (λ c. (called_form c ≡ form) × HoldsSystem c.system point) calls

-- calls of points of one form have no point in common
abbrev pub AreApart : Calls → Calls → Type 0
AreApart a b = called_form a ≡ called_form b → AreDisjoint (free_columns a.system) a.system b.system

-- ---- what calls may be
pub record IsPlainWithin (g : Gauge) (c : Calls) : Type 0 where
  pub within : IsSystemWithin g c.system
  pub plain : c.system.definitions ≡ []

-- those of points of one form have as many columns
abbrev pub AreEven : List Calls → Type 0
AreEven calls = All (λ a. All (λ b. called_form a ≡ called_form b → free_columns a.system ≡ free_columns b.system) calls) calls

-- ---- parts
-- calls of the same form, times and layout
pub record IsLike (c part : Calls) : Type 0 where
  pub domain : called_form part ≡ called_form c
  pub time : form_of part.time.value ≡ form_of c.time.value
  pub own : part.is_own ≡ c.is_own

pub record IsPartOf (g : Gauge) (c part : Calls) : Type 0 where
  pub like : IsLike c part
  pub sound : IsPlainWithin g part
  pub free : free_columns part.system ≡ free_columns c.system

-- the systems of those calls that are of points of the form
pub record AreSystemsFor (form : Form) (calls : List Calls) (systems : List System) : Type 0 where
  pub each : All (λ s. Any (λ c. (called_form c ≡ form) × (c.system ≡ s)) calls) systems
  pub all : (point : List ℤ) → HoldsFor form calls point → HoldsAtAny systems point

-- what is left of calls without the earlier ones of points of their form
pub record AreLeftOf (g : Gauge) (c : Calls) (earlier left : List Calls) : Type 0 where
  pub parts : All (IsPartOf g c) left
  pub points : (point : List ℤ) → length point ≡ free_columns c.system
      → Any (λ part. HoldsSystem part.system point) left ↔ (HoldsSystem c.system point × ¬ HoldsFor (called_form c) earlier point)
  pub apart : AllPairs (λ a b. AreDisjoint (free_columns c.system) a.system b.system) left

-- the same calls, none of them twice
pub record AreApartOf (g : Gauge) (calls made : List Calls) : Type 0 where
  pub parts : All (λ part. Any (λ c. IsPartOf g c part) calls) made
  pub points : (form : Form) (point : List ℤ)
      → All (λ c. called_form c ≡ form → length point ≡ free_columns c.system) calls
      → HoldsFor form made point ↔ HoldsFor form calls point
  pub apart : AllPairs AreApart made
