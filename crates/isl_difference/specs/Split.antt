-- public: a system split by rows over its columns. (isl, on subtracting one basic set after another)
use Rattle.std.specs.Prelude.{◌≡◌, ◌↔◌, ◌⊎◌, ◌++◌, All, AllPairs, Any, ℕ, ◌+◌, ◌<◌, ◌≤◌, ℤ, List, [], ◌∷◌, length}
use Rattle.isl_meter.specs.Gauge.{Gauge}
use Rattle.isl_piece.specs.declared.row.Row.{Row}
use Rattle.isl_piece.specs.declared.system.System.{System}
use Rattle.isl_piece.specs.Definition.{with_defined}
use Rattle.isl_piece.specs.Normal.{IsNormal}
use Rattle.isl_piece.specs.Row.{HoldsRow}
use Rattle.isl_piece.specs.System.{HoldRows, HoldsSystem, IsSystemWithin, free_columns}
use Rattle.isl_elim.specs.Elimination.{HoldsAtAny}
use Rattle.isl_elim.specs.Sample.{IsNowhere}
use Rattle.isl_difference.specs.Difference.{IsLeftOf, IsOutside, IsPartition}

-- the system without its rows
abbrev pub frame_of : System → System
frame_of s = record { columns = s.columns; definitions = s.definitions; rows = [] }

-- the system with more rows
abbrev pub and_rows : System → List Row → System
and_rows s rows = record { columns = s.columns; definitions = s.definitions; rows = s.rows ++ rows }

-- the system holds at the point, but one of the rows does not
abbrev pub HoldsBut : System → List Row → List ℤ → Type 0
HoldsBut s rows point = HoldsSystem s point × (¬ HoldRows rows (with_defined s.definitions point))

-- the system holds at the point, and one of the rows does
abbrev pub HoldsWithAny : System → List Row → List ℤ → Type 0
HoldsWithAny s rows point = HoldsSystem s point × Any (λ r. HoldsRow r (with_defined s.definitions point)) rows

-- no two of the rows hold at one point
pub record AreExclusive (rows : List Row) : Type 0 where
  pub apart : AllPairs (λ a b. (xs : List ℤ) → HoldsRow a xs → ¬ HoldsRow b xs) rows

-- a normal system over so many free columns that has a point
pub record IsLive (g : Gauge) (columns : ℕ) (s : System) : Type 0 where
  pub free : free_columns s ≡ columns
  pub within : IsSystemWithin g s
  pub normal : IsNormal s.rows
  pub somewhere : ¬ IsNowhere columns (HoldsSystem s)

-- the live system that holds where the old one does, and defines the same columns
pub record IsLiveFormOf (g : Gauge) (old new : System) : Type 0 where
  pub live : IsLive g (free_columns old) new
  pub points : (point : List ℤ) → HoldsSystem new point ↔ HoldsSystem old point
  pub definitions : new.definitions ≡ old.definitions

-- to the systems the live form of one was put; none where it has no point
pub record IsPushed (g : Gauge) (s : System) (old new : List System) : Type 0 where
  pub added : List System
  pub is : new ≡ old ++ added
  pub few : length added ≤ 1
  pub definitions : All (λ t. t.definitions ≡ s.definitions) added
  pub partition : IsPartition (IsLive g (free_columns s)) (free_columns s) (HoldsSystem s) added

-- a unit was used for each of the rows, of which no more parts came
pub record ArePaidBy (old new : Gauge) (rows : List Row) (parts : List System) : Type 0 where
  pub few : length parts ≤ length rows
  pub units : old.units + length rows ≤ new.units

-- there are no parts, or a unit was used, and one for each part
abbrev pub ArePaid : Gauge → Gauge → List System → Type 0
ArePaid old new parts = (parts ≡ []) ⊎ (old.units + length parts < new.units)

-- live parts of a system in which the other does not hold
abbrev pub AreLiveParts : Gauge → System → System → List System → Type 0
AreLiveParts g s other parts = IsPartition (IsLive g (free_columns s)) (free_columns s) (IsOutside s (other ∷ [])) parts

-- the systems are over the same columns, and hold where the first ones do
pub record AreAligned (g : Gauge) (s other wide moved : System) : Type 0 where
  pub columns : moved.columns ≡ wide.columns
  pub definitions : moved.definitions ≡ wide.definitions
  pub free : free_columns wide ≡ free_columns s
  pub within : IsSystemWithin g wide
  pub moved_within : IsSystemWithin g moved
  pub points : (point : List ℤ) → length point ≡ free_columns s → HoldsSystem wide point ↔ HoldsSystem s point
  pub moved_points : (point : List ℤ) → length point ≡ free_columns s → HoldsSystem moved point ↔ HoldsSystem other point

-- some of the systems holds at the point, and the other does not
abbrev pub HoldsBeside : List System → System → List ℤ → Type 0
HoldsBeside systems other point = HoldsAtAny systems point × (¬ HoldsSystem other point)

-- the system is left of one of the others
abbrev pub IsLeftOfAny : Gauge → List System → System → Type 0
IsLeftOfAny g olds new = Any (λ old. IsLeftOf g old new) olds
