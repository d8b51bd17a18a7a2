-- public: covers: systems over the first columns, of which some holds wherever numbers begin a point of a system, and perhaps elsewhere.
-- (Bastoul, code generation in the polyhedral model; Pugh, the Omega test)
use Rattle.std.specs.Prelude.{◌≡◌, ◌⊎◌, ℕ, ◌+◌, ◌-◌, ◌<◌, ◌≤◌, ℤ, List, [], length, slice_index_or, All}
use Rattle.isl_piece.specs.declared.system.System.{System}
use Rattle.isl_piece.specs.System.{free_columns}
use Rattle.isl_elim.specs.Elimination.{HoldsAtAny}
use Rattle.isl_tower.specs.Ends.{HasLowerEnd, HasUpperEnd}
use Rattle.isl_tower.specs.Tower.{BeginsPoint, IsProjectionOnto, IsTowerOf}

-- systems over the first so many columns, of which some holds where numbers begin a point of the system
pub record IsCoverOf (s : System) (width : ℕ) (systems : List System) : Type 0 where
  pub columns : All (λ t. free_columns t ≡ width) systems
  pub points : (front : List ℤ) → length front ≡ width → BeginsPoint s front → HoldsAtAny systems front

-- at each height from 0 to the number of the other columns there is a cover over the first `outer` columns and so many more
pub record AreCoversOf (s : System) (outer : ℕ) (levels : List (List System)) : Type 0 where
  pub outer_in : outer ≤ free_columns s
  pub count : outer + length levels ≡ free_columns s + 1
  pub covers : (height : ℕ) → height < length levels → IsCoverOf s (outer + height) (slice_index_or levels height [])

-- the last column has an end on each side
abbrev pub IsEnded : System → Type 0
IsEnded t = HasLowerEnd (free_columns t - 1) t.rows × HasUpperEnd (free_columns t - 1) t.rows

-- above the lowest level the last column of each system has
abbrev pub AreEnded : List (List System) → Type 0
AreEnded levels = (height : ℕ) → 0 < height → height < length levels → All IsEnded (slice_index_or levels height [])

-- at each level there is at most one system, and at the top it holds exactly where s does
pub record AreLone (s : System) (levels : List (List System)) : Type 0 where
  pub few : All (λ level. length level ≤ 1) levels
  pub top : IsProjectionOnto s (free_columns s) (slice_index_or levels (length levels - 1) [])

-- so it is, or at each level some system holds exactly where numbers begin a point
abbrev pub AreTight : System → ℕ → List (List System) → Type 0
AreTight s outer levels = AreLone s levels ⊎ IsTowerOf s outer levels
