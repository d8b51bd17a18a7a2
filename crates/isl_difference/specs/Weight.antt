-- public: what lists of systems weigh, and when they take more memory than is kept.
use Rattle.std.specs.Prelude.{ℕ, ◌+◌, ◌-◌, ◌*◌, ◌/◌, ◌^◌, ◌<◌, ◌⊎◌, List, length, map, min, sum_by, get_or}
use Rattle.isl_column.specs.Weight.{row_bytes}
use Rattle.isl_piece.specs.declared.system.System.{System}

-- how many rows the systems of a list have, and one more for each
abbrev pub weight : {X : Type 0} → (X → System) → List X → ℕ
weight system_of xs = sum_by (λ x. length (system_of x).rows + 1) xs

-- so many rows over so many columns take more memory than is kept. Two count for three, since lists of systems are made of others, which
-- are kept meanwhile
abbrev pub AreTooHeavy : ℕ → ℕ → Type 0
AreTooHeavy rows columns = 100663296 < (rows + rows / 2) * row_bytes columns

-- a count of the machine, which stands still at its top
abbrev pub counted : ℕ → ℕ
counted n = min n (2 ^ 64 - 1)

-- over how many columns the last system of a list is
abbrev pub last_columns : {X : Type 0} → (X → System) → List X → ℕ
last_columns system_of xs = get_or (map (λ x. (system_of x).columns) xs) (length xs - 1) 0

-- what the systems of both lists weigh, if the others do as much each, on the average, as the second list tells
abbrev pub shared_weight : {X : Type 0} → (X → System) → List X → List X → ℕ
shared_weight system_of xs others =
    counted (length xs + length others) * (counted (weight system_of others) / length others)

-- the systems of both lists, each counted so many times, take too much, as those of the second list tell; or there is room for fewer, and
-- all of them do
abbrev pub TakeTooMuchTogether : {X : Type 0} → (X → System) → List X → List X → ℕ → ℕ → Type 0
TakeTooMuchTogether system_of xs others room times =
    (0 < length others)
    × (AreTooHeavy (shared_weight system_of xs others * times) (last_columns system_of others)
    ⊎ ((room < counted (length xs + length others))
    × AreTooHeavy ((weight system_of others + weight system_of xs) * times) (last_columns system_of others)))
