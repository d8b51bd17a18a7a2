-- inner: one level of covers below another.
use Rattle.std.specs.Prelude.{◌≡◌, ◌⊎◌, ℕ, ◌≤◌, ℤ, Option, List, [], ◌∷◌, ◌++◌, length, All, Contains, MatchOption}
use Rattle.isl_meter.specs.Gauge.{Gauge}
use Rattle.isl_piece.specs.declared.system.System.{System}
use Rattle.isl_piece.specs.Normal.{IsNormal}
use Rattle.isl_piece.specs.System.{HoldsSystem, IsSystemWithin, free_columns}
use Rattle.isl_elim.specs.Elimination.{HoldsAtAny}
use Rattle.isl_tower.specs.Level.{AreOver}
use Rattle.isl_calls.specs.Covers.{AreCoversOf, IsEnded}

-- a system over the first so many columns that holds where some number behind them makes the other one hold
pub record IsShadowOf (g : Gauge) (s : System) (width : ℕ) (t : System) : Type 0 where
  pub within : IsSystemWithin g t
  pub plain : t.definitions ≡ []
  pub normal : IsNormal t.rows
  pub columns : free_columns t ≡ width
  pub points : (point : List ℤ) (x : ℤ) → length point ≡ width → HoldsSystem s (point ++ x ∷ []) → HoldsSystem t point

-- none says that the system has no point
abbrev pub IsShadow : Gauge → System → ℕ → Option System → Type 0
IsShadow g s width found =
    MatchOption found ((point : List ℤ) (x : ℤ) → length point ≡ width → ¬ HoldsSystem s (point ++ x ∷ [])) (IsShadowOf g s width)

-- no more systems than these, of which some holds where some number behind the point makes some of these hold
pub record AreShadows (g : Gauge) (systems : List System) (width : ℕ) (lower : List System) : Type 0 where
  pub over : AreOver g width lower
  pub few : length lower ≤ length systems
  pub points : (point : List ℤ) (x : ℤ) → length point ≡ width → HoldsAtAny systems (point ++ x ∷ []) → HoldsAtAny lower point

-- the upper levels of covers, down to that of the first so many columns
pub record AreUpper (g : Gauge) (s : System) (width : ℕ) (levels : List (List System)) : Type 0 where
  pub covers : AreCoversOf s width levels
  pub within : All (All (IsSystemWithin g)) levels
  pub plain : All (All (λ t. t.definitions ≡ [])) levels
  pub normal : All (All (λ t. IsNormal t.rows)) levels

-- those of the systems whose last column has an end on each side
pub record AreEndedOf (systems kept : List System) : Type 0 where
  pub each : All (λ t. Contains systems t × IsEnded t) kept
  pub all : (t : System) → Contains systems t → Contains kept t ⊎ (¬ IsEnded t)
