-- public: the greatest of the lists of P, number by number. (Feautrier, on the lexicographic maximum)
use Rattle.std.specs.Prelude.{◌≡◌, ℤ, ◌≤ℤ◌, List, ◌++◌, length, Option, Some, None}
use Rattle.isl_math.specs.Order.{IsBefore}

-- some list of P begins with these numbers
abbrev pub Begins : (List ℤ → Type 0) → List ℤ → Type 0
Begins P front = (rest : List ℤ) × P (front ++ rest)

-- a list of P begins with these numbers, and none begins with as many that come behind them
pub record IsGreatestFront (P : List ℤ → Type 0) (front : List ℤ) : Type 0 where
  pub begins : Begins P front
  pub greatest : (other : List ℤ) → length other ≡ length front → Begins P other → ¬ IsBefore front other

-- if there is a list of P at all, this is its greatest front
abbrev pub LeadsBy : (List ℤ → Type 0) → List ℤ → Type 0
LeadsBy P front = (ys : List ℤ) → P ys → IsGreatestFront P front

-- the list is one of P, and none comes behind it
abbrev pub IsGreatest : (List ℤ → Type 0) → List ℤ → Type 0
IsGreatest P ys = P ys × ((zs : List ℤ) → P zs → ¬ IsBefore ys zs)

-- the number is one of Q, and none is greater
pub record IsGreatestOf (Q : ℤ → Type 0) (z : ℤ) : Type 0 where
  pub is : Q z
  pub greatest : (u : ℤ) → Q u → u ≤ℤ z

-- the greatest number of T, or none where T has none
abbrev pub IsBest : (ℤ → Type 0) → Option ℤ → Type 0
IsBest T None = (z : ℤ) → ¬ T z
IsBest T (Some z) = IsGreatestOf T z

-- the greatest list of P, or none where P has none
abbrev pub GivesGreatest : (List ℤ → Type 0) → Option (List ℤ) → Type 0
GivesGreatest P None = (ys : List ℤ) → ¬ P ys
GivesGreatest P (Some ys) = IsGreatest P ys
