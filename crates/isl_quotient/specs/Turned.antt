-- inner: a system in which a quotient stands for one of the columns.
use Rattle.std.specs.Prelude.{◌≡◌, ◌-◌, ℕ, List, [], ◌∷◌, All}
use Rattle.isl_meter.specs.Gauge.{Gauge}
use Rattle.isl_piece.specs.declared.system.System.{System}
use Rattle.isl_piece.specs.System.{IsSystemWithin, free_columns}
use Rattle.isl_elim.specs.Elimination.{IsProjection}
use Rattle.isl_elim.specs.Others.{others_of}
use Rattle.isl_quotient.specs.Quotient.{IsUndefining}

-- the projection of the column, of which no definition names one of the others
pub record IsTurned (g : Gauge) (s : System) (cols : List ℕ) (col : ℕ) (made : System) : Type 0 where
  pub projection : IsProjection s col (made ∷ [])
  pub within : IsSystemWithin g made
  pub free : free_columns made ≡ free_columns s - 1
  pub undefining : All (λ c. IsUndefining c made.definitions) (others_of col cols)
