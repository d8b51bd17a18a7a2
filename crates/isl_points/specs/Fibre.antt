-- public: fibres: what is kept of a system at numbers for its first columns, where finitely many points begin with these. (isl manual, on
-- fixing values and on bounded sets)
use Rattle.std.specs.Prelude.{◌≡◌, ℕ, ◌-◌, ◌<◌, ◌≤◌, ℤ, List, [], length, slice_index_or, All}
use Rattle.isl_meter.specs.Gauge.{Gauge}
use Rattle.isl_piece.specs.declared.system.System.{System}
use Rattle.isl_piece.specs.System.{HoldsSystem, IsSystemWithin, free_columns}
use Rattle.isl_elim.specs.Sample.{IsNowhere}
use Rattle.isl_tower.specs.Ends.{HasLowerEnd, HasUpperEnd}
use Rattle.isl_tower.specs.Level.{AreOver}
use Rattle.isl_tower.specs.Numbers.{system_at}
use Rattle.isl_tower.specs.Tower.{IsTowerOf}

-- where the last column lacks an end on one side, there is no point
abbrev pub IsEnded : System → Type 0
IsEnded s = ¬ (HasLowerEnd (free_columns s - 1) s.rows × HasUpperEnd (free_columns s - 1) s.rows)
    → IsNowhere (free_columns s) (HoldsSystem s)

-- the systems of each level are over as many columns as its height, and above the lowest each without an end on one side has no point
pub record AreLevelsWithin (g : Gauge) (levels : List (List System)) : Type 0 where
  pub some : 0 < length levels
  pub over : (height : ℕ) → height < length levels → AreOver g height (slice_index_or levels height [])
  pub ended : (height : ℕ) → 0 < height → height < length levels → All IsEnded (slice_index_or levels height [])

-- the levels are the tower of what is left of a system, in which no column is defined, at the numbers, and it is bounded there
pub record IsFibreOf (g : Gauge) (s : System) (numbers : List ℤ) (levels : List (List System)) : Type 0 where
  pub within : IsSystemWithin g s
  pub plain : s.definitions ≡ []
  pub numbers_in : length numbers ≤ free_columns s
  pub tower : IsTowerOf (system_at numbers s) 0 levels
  pub sound : AreLevelsWithin g levels

-- the fibre of some system over some numbers
abbrev pub IsFibre : Gauge → List (List System) → Type 0
IsFibre g levels = (s : System) × (numbers : List ℤ) × IsFibreOf g s numbers levels
