-- inner: the levels of a tower, from the top downwards.
use Rattle.std.specs.Prelude.{◌≡◌, ◌↔◌, ℕ, ℤ, List, [], ◌∷◌, ◌++◌, length, All}
use Rattle.isl_meter.specs.Gauge.{Gauge}
use Rattle.isl_piece.specs.declared.system.System.{System}
use Rattle.isl_piece.specs.Normal.{IsNormal}
use Rattle.isl_piece.specs.System.{IsSystemWithin, free_columns}
use Rattle.isl_elim.specs.Elimination.{HoldsAtAny}
use Rattle.isl_tower.specs.Tower.{IsTowerOf}

-- systems over so many columns, none of them defined, with normal rows and their numbers within the limit
pub record AreOver (g : Gauge) (width : ℕ) (systems : List System) : Type 0 where
  pub within : All (IsSystemWithin g) systems
  pub plain : All (λ s. s.definitions ≡ []) systems
  pub normal : All (λ s. IsNormal s.rows) systems
  pub columns : All (λ s. free_columns s ≡ width) systems

-- some of the lower systems holds where some number behind the point makes some of the systems hold
pub record AreBelow (g : Gauge) (systems : List System) (width : ℕ) (lower : List System) : Type 0 where
  pub over : AreOver g width lower
  pub points : (point : List ℤ) → length point ≡ width → HoldsAtAny lower point ↔ ((x : ℤ) × HoldsAtAny systems (point ++ x ∷ []))

-- the upper levels of a tower, down to the projection onto the first so many columns
pub record AreLevels (g : Gauge) (s : System) (width : ℕ) (levels : List (List System)) : Type 0 where
  pub tower : IsTowerOf s width levels
  pub within : All (All (IsSystemWithin g)) levels
  pub plain : All (All (λ t. t.definitions ≡ [])) levels
  pub normal : All (All (λ t. IsNormal t.rows)) levels
