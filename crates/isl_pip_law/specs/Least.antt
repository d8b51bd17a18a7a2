-- public: the least of the lists of P. (Feautrier, on the lexicographic minimum)
use Rattle.std.specs.Prelude.{List, ℤ, Option, Some, None}
use Rattle.isl_math.specs.Order.{IsBefore}

-- a list of P that no other one comes before
abbrev pub IsLeast : (List ℤ → Type 0) → List ℤ → Type 0
IsLeast P ys = P ys × ((zs : List ℤ) → P zs → ¬ IsBefore zs ys)

-- the least list of P, or none where P has none
abbrev pub GivesLeast : (List ℤ → Type 0) → Option (List ℤ) → Type 0
GivesLeast P None = (ys : List ℤ) → ¬ P ys
GivesLeast P (Some ys) = IsLeast P ys
