-- public: steps among rows, and the rows of a group that is the only one. (Bastoul, code generation in the polyhedral model)
use Rattle.std.specs.Prelude.{◌≡◌, ℕ, ℤ, pos, Option, None, Some, List, [], ◌∷◌, All, Contains}
use Rattle.isl_math.specs.Divide.{IsGcdOf}
use Rattle.isl_meter.specs.Gauge.{Gauge}
use Rattle.isl_piece.specs.declared.row.RowKind.TheVariants.{Divides}
use Rattle.isl_piece.specs.declared.row.Row.{Row}
use Rattle.isl_piece.specs.Row.{coef_at, HoldsRow}
use Rattle.isl_bounds.specs.Step.{IsStepOf}

-- a congruence whose coefficient at the column has no divisor in common with its modulus: it tells what the column leaves
pub record TellsStep (column : ℕ) (r : Row) : Type 0 where
  pub kind : r.kind ≡ Divides
  pub coprime : IsGcdOf (coef_at r column) r.k (pos 1)

-- each of the rows tells a step, and at the point all of them hold or none
pub record TellOneStep (column : ℕ) (rows : List Row) (point : List ℤ) : Type 0 where
  pub each : All (TellsStep column) rows
  pub agree : All (λ r. All (λ s. HoldsRow r point → HoldsRow s point) rows) rows

-- a step that says what one of the rows says
abbrev pub IsStepAmong : Gauge → ℕ → List Row → Row → Type 0
IsStepAmong g variables rows step = (row : Row) × Contains rows row × IsStepOf g variables row step

-- the step, where there is one
abbrev pub steps_of : Option Row → List Row
steps_of None = []
steps_of (Some step) = step ∷ []

-- the rows of the group, where there is but one
abbrev pub only_of : List (List Row) → List Row
only_of [] = []
only_of (rows ∷ []) = rows
only_of (rows ∷ more ∷ groups) = []
