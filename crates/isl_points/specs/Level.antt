-- inner: lists of what begins points, one column longer at each level of a tower.
use Rattle.std.specs.Prelude.{◌≡◌, ◌↔◌, ℕ, ◌+◌, ◌≤◌, ℤ, List, [], ◌∷◌, ◌++◌, map, length, All, AllPairs, Contains}
use Rattle.isl_math.specs.Order.{IsBefore}
use Rattle.isl_meter.specs.Gauge.{Gauge, IsCharged, IsWithin}
use Rattle.isl_piece.specs.declared.system.System.{System}
use Rattle.isl_elim.specs.Elimination.{HoldsAtAny}
use Rattle.isl_tower.specs.Tower.{BeginsPoint}
use Rattle.isl_points.specs.Line.{IsListing}

-- the prefix with each of the numbers behind it
abbrev pub behind : List ℤ → List ℤ → List (List ℤ)
behind prefix numbers = map (λ x. prefix ++ x ∷ []) numbers

-- the prefix with each number behind it at which some of the systems holds was put behind the lists
pub record IsLengthened (old new : Gauge) (systems : List System) (prefix : List ℤ) (lists longer : List (List ℤ)) : Type 0 where
  pub numbers : List ℤ
  pub listed : IsListing old new (λ x. HoldsAtAny systems (prefix ++ x ∷ [])) numbers
  pub pushed : longer ≡ lists ++ behind prefix numbers

-- the lists are those of the shorter ones with one number more at which some of the systems holds, in lexicographic order, and at least
-- a unit was used for each
pub record AreLonger (old new : Gauge) (systems : List System) (shorter longer : List (List ℤ)) : Type 0 where
  pub exact : (p : List ℤ) → Contains longer p
      ↔ ((q : List ℤ) × (x : ℤ) × Contains shorter q × (q ++ x ∷ [] ≡ p) × HoldsAtAny systems p)
  pub ordered : AllPairs IsBefore longer
  pub within : All (All (IsWithin old)) longer
  pub counted : old.units + length longer ≤ new.units
  pub charged : IsCharged old new

-- exactly the lists of so many numbers that begin a point of the system, in lexicographic order
pub record AreBeginnings (s : System) (width : ℕ) (list : List (List ℤ)) : Type 0 where
  pub exact : (p : List ℤ) → Contains list p ↔ ((length p ≡ width) × BeginsPoint s p)
  pub ordered : AllPairs IsBefore list
