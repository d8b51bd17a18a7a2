-- public: the difference of systems: what is left of one without others. (isl manual, on subtracting sets)
use Rattle.std.specs.Prelude.{◌≡◌, ◌↔◌, ◌⊎◌, All, AllPairs, ℕ, ◌+◌, ◌<◌, ℤ, List, [], ◌∷◌, length}
use Rattle.isl_meter.specs.Gauge.{Gauge}
use Rattle.isl_piece.specs.declared.system.System.{System}
use Rattle.isl_piece.specs.Normal.{IsNormal}
use Rattle.isl_piece.specs.System.{HoldsSystem, IsSystemWithin, free_columns}
use Rattle.isl_elim.specs.Elimination.{HoldsAtAny}
use Rattle.isl_elim.specs.Sample.{IsNowhere}

-- no point of so many whole numbers is one of both systems
pub record AreDisjoint (columns : ℕ) (a b : System) : Type 0 where
  pub apart : (point : List ℤ) → length point ≡ columns → HoldsSystem a point → ¬ HoldsSystem b point

-- systems of K, no two of which hold at one point, and some of which holds at a point exactly where it is one of P
pub record IsPartition (K : System → Type 0) (columns : ℕ) (P : List ℤ → Type 0) (systems : List System) : Type 0 where
  pub each : All K systems
  pub points : (point : List ℤ) → length point ≡ columns → HoldsAtAny systems point ↔ P point
  pub disjoint : AllPairs (AreDisjoint columns) systems

-- what is left of a system: over its free columns and within the limit; and normal, and with a point, where the system is so
pub record IsLeftOf (g : Gauge) (old new : System) : Type 0 where
  pub columns : free_columns new ≡ free_columns old
  pub within : IsSystemWithin g new
  pub normal : IsNormal old.rows → IsNormal new.rows
  pub live : ¬ IsNowhere (free_columns old) (HoldsSystem old) → ¬ IsNowhere (free_columns new) (HoldsSystem new)

-- the system holds at the point, and none of the others does
abbrev pub IsOutside : System → List System → List ℤ → Type 0
IsOutside system others point = HoldsSystem system point × (¬ HoldsAtAny others point)

-- the new systems are what is left of the old one: its points that are in none of the others, each in one of the new
abbrev pub IsDifference : Gauge → System → List System → List System → Type 0
IsDifference g old others new = IsPartition (IsLeftOf g old) (free_columns old) (IsOutside old others) new

-- each point of the system is one of the others
abbrev pub IsCovered : System → List System → Type 0
IsCovered system others = (point : List ℤ) → length point ≡ free_columns system → HoldsSystem system point → HoldsAtAny others point

-- nothing is left, or the system itself; else a unit was used, and one for each system that is left
abbrev pub IsCounted : Gauge → Gauge → System → List System → Type 0
IsCounted old new system left = (left ≡ []) ⊎ (left ≡ system ∷ []) ⊎ (old.units + length left < new.units)
