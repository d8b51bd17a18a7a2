-- inner: the first of the lists of numbers that systems leave behind others; first are the least or the greatest. (Feautrier, on the
-- lexicographic minimum)
use Rattle.std.specs.Prelude.{◌≡◌, ◌↔◌, ◌⊎◌, ◌++◌, ◌+◌, ◌-◌, ◌<◌, ◌≤ℤ◌, ◌<ℤ◌, ℕ, ℤ, pos, neg_ℤ, Bool, IsTrue, List, [], All, get_or}
use Rattle.std.specs.Prelude.{length, take}
use Rattle.isl_math.specs.Order.{IsBefore}
use Rattle.isl_meter.specs.Gauge.{Gauge, IsCharged}
use Rattle.isl_piece.specs.declared.row.Row.{Row}
use Rattle.isl_piece.specs.declared.system.System.{System}
use Rattle.isl_piece.specs.System.{HoldsSystem, free_columns}
use Rattle.isl_elim.specs.Elimination.{HoldsAtAny}
use Rattle.isl_difference.specs.Split.{IsLive}
use Rattle.isl_tower.specs.Ends.{HasLowerEnd, HasUpperEnd}
use Rattle.isl_blocks.specs.declared.cases.Direction.{Direction}
use Rattle.isl_blocks.specs.declared.cases.Direction.TheVariants.{Before, After}
use Rattle.isl_blocks.specs.Cases.{DiffersAt}
use Rattle.isl_extremes.specs.declared.systems.Order.{Order}

-- ---- lists of numbers
-- the one list comes before the other; or behind it
abbrev pub IsAhead : Direction → List ℤ → List ℤ → Type 0
IsAhead Before xs ys = IsBefore xs ys
IsAhead After xs ys = IsBefore ys xs

-- the number, or its negative: the less, the further ahead
abbrev pub signed : Direction → ℤ → ℤ
signed Before z = z
signed After z = neg_ℤ z

-- a list of P that no other one is ahead of
abbrev pub IsFirst : Direction → (List ℤ → Type 0) → List ℤ → Type 0
IsFirst direction P ys = P ys × ((zs : List ℤ) → P zs → ¬ IsAhead direction zs ys)

-- a list of P that no other one is ahead of at one of the first i places
pub record Stands (direction : Direction) (P : List ℤ → Type 0) (i : ℕ) (ys : List ℤ) : Type 0 where
  pub is : P ys
  pub unbeaten : (j : ℕ) (zs : List ℤ) → j < i → P zs → ¬ DiffersAt direction j zs ys

-- ---- systems
-- so many numbers that stand behind the front in a point of one of the systems
abbrev pub AreBehind : List System → ℕ → List ℤ → List ℤ → Type 0
AreBehind systems width front ys = (length ys ≡ width) × HoldsAtAny systems (front ++ ys)

-- normal systems over so many columns, each with a point, that define no column
pub record ArePlain (g : Gauge) (columns : ℕ) (systems : List System) : Type 0 where
  pub live : All (IsLive g columns) systems
  pub plain : All (λ s. s.definitions ≡ []) systems

-- plain systems that hold where numbers behind the same front, which the others leave there, are ahead at the place
pub record AreBeaten (g : Gauge) (order : Order) (at : ℕ) (systems beaten : List System) : Type 0 where
  pub are : ArePlain g (order.front + order.width) beaten
  pub points : (front ys : List ℤ) → length front ≡ order.front → length ys ≡ order.width
      → HoldsAtAny beaten (front ++ ys) ↔ ((zs : List ℤ) × AreBehind systems order.width front zs × DiffersAt order.direction at zs ys)

-- plain systems that hold where some of these does, and none of the others
pub record AreOutside (g : Gauge) (columns : ℕ) (systems others left : List System) : Type 0 where
  pub are : ArePlain g columns left
  pub points : (point : List ℤ) → length point ≡ columns → HoldsAtAny left point ↔ (HoldsAtAny systems point × (¬ HoldsAtAny others point))

-- plain systems of the lists that no other is ahead of at one of the first places
pub record AreStanding (g : Gauge) (order : Order) (at : ℕ) (systems left : List System) : Type 0 where
  pub are : ArePlain g (order.front + order.width) left
  pub points : (front ys : List ℤ) → length front ≡ order.front → length ys ≡ order.width
      → HoldsAtAny left (front ++ ys) ↔ Stands order.direction (AreBehind systems order.width front) at ys

-- plain systems of the first lists
pub record AreFirst (g : Gauge) (order : Order) (systems left : List System) : Type 0 where
  pub are : ArePlain g (order.front + order.width) left
  pub points : (front ys : List ℤ) → length front ≡ order.front → length ys ≡ order.width
      → HoldsAtAny left (front ++ ys) ↔ IsFirst order.direction (AreBehind systems order.width front) ys

-- of lists behind a front: some list that the systems leave there is ahead at the place, or none is
abbrev pub IsDecided : Order → ℕ → List System → Type 0
IsDecided order at systems =
    (front ys : List ℤ) → length front ≡ order.front → length ys ≡ order.width
    → ((zs : List ℤ) × AreBehind systems order.width front zs × DiffersAt order.direction at zs ys)
    ⊎ ((zs : List ℤ) → AreBehind systems order.width front zs → ¬ DiffersAt order.direction at zs ys)

-- behind each front that the systems leave some list there is a first one
abbrev pub HaveFirst : Order → List System → Type 0
HaveFirst order systems =
    (front ys : List ℤ) → length front ≡ order.front → AreBehind systems order.width front ys
    → (zs : List ℤ) × IsFirst order.direction (AreBehind systems order.width front) zs

-- ---- ends
-- some row ends the column on the side
abbrev pub HasEnd : Direction → ℕ → List Row → Type 0
HasEnd Before col rows = HasLowerEnd col rows
HasEnd After col rows = HasUpperEnd col rows

-- the last column has an end on the side, or there is no point
abbrev pub IsClosedOn : Direction → System → Type 0
IsClosedOn direction s = HasEnd direction (free_columns s - 1) s.rows ⊎
    ((point : List ℤ) → length point ≡ free_columns s → ¬ HoldsSystem s point)

-- where the front and the numbers before the place are given, some number bounds the one at the place on the side
abbrev pub IsEnded : Order → ℕ → System → Type 0
IsEnded order at s =
    (front before : List ℤ) → length front ≡ order.front → length before ≡ at
    → (bound : ℤ) × ((ys : List ℤ) → length ys ≡ order.width → take at ys ≡ before → HoldsSystem s (front ++ ys)
    → bound ≤ℤ signed order.direction (get_or ys at (pos 0)))

-- there are lists behind the front with the same numbers before the place as far to the side as is asked for
abbrev pub Falls : Order → ℕ → System → List ℤ → List ℤ → Type 0
Falls order at s front ys =
    (bound : ℤ) → (zs : List ℤ) × (length zs ≡ order.width) × (take at zs ≡ take at ys) × HoldsSystem s (front ++ zs)
    × (signed order.direction (get_or zs at (pos 0)) <ℤ bound)

abbrev pub NeverFalls : Order → ℕ → System → Type 0
NeverFalls order at s = (front ys : List ℤ) → length front ≡ order.front → length ys ≡ order.width → HoldsSystem s (front ++ ys)
    → ¬ Falls order at s front ys

-- yes where each of the systems is ended at the place, and no where some of them falls
pub record AreAnswered (order : Order) (at : ℕ) (systems : List System) (answer : Bool) : Type 0 where
  pub ended : IsTrue answer → All (IsEnded order at) systems
  pub falls : ¬ IsTrue answer → ¬ All (NeverFalls order at) systems

-- ---- place after place
-- at each place before this one some number bounds, on the side, that of the lists that stand and have the same numbers before it
abbrev pub AreEndedTo : Order → List System → ℕ → Type 0
AreEndedTo order systems at =
    (i : ℕ) (front before : List ℤ) → i < at → length front ≡ order.front → length before ≡ i
    → (bound : ℤ) × ((zs : List ℤ) → Stands order.direction (AreBehind systems order.width front) i zs → take i zs ≡ before
    → bound ≤ℤ signed order.direction (get_or zs i (pos 0)))

-- places were looked at
pub record AreSoFar (old new : Gauge) (order : Order) (at : ℕ) (systems left : List System) : Type 0 where
  pub charged : IsCharged old new
  pub standing : AreStanding old order at systems left
  pub ended : AreEndedTo order systems at
  pub decided : (i : ℕ) → i < at → IsDecided order i systems
