-- public: a point at which rows hold. (isl manual, on samples)
use Rattle.std.specs.Prelude.{◌≡◌, ℕ, ℤ, List, All, length}
use Rattle.isl_meter.specs.Gauge.{Gauge, IsWithin}

-- as many whole numbers as columns, each within the limit, that are a point of P
pub record IsSample (g : Gauge) (columns : ℕ) (P : List ℤ → Type 0) (point : List ℤ) : Type 0 where
  pub width : length point ≡ columns
  pub within : All (IsWithin g) point
  pub holds : P point

-- P has no point of so many whole numbers
abbrev pub IsNowhere : ℕ → (List ℤ → Type 0) → Type 0
IsNowhere columns P = (point : List ℤ) → length point ≡ columns → ¬ P point
