-- public: a system without definitions that says the same. (isl manual, on integer divisions)
use Rattle.std.specs.Prelude.{◌≡◌, ◌↔◌, ℕ, ℤ, List, [], ◌∷◌, length}
use Rattle.isl_meter.specs.Gauge.{Gauge}
use Rattle.isl_piece.specs.declared.system.System.{System}
use Rattle.isl_piece.specs.Normal.{IsNormal}
use Rattle.isl_piece.specs.System.{HoldsSystem, IsSystemWithin, free_columns}
use Rattle.isl_elim.specs.Elimination.{IsProjectionAlong}

-- a normal system that defines no column, and is what is left of the other without the columns
pub record IsPlainLeft (g : Gauge) (s : System) (cols : List ℕ) (left : System) : Type 0 where
  pub within : IsSystemWithin g left
  pub normal : IsNormal left.rows
  pub definitions : left.definitions ≡ []
  pub projection : IsProjectionAlong s cols (left ∷ [])

-- a normal system over the free columns of the other, which defines none, and holds at the same points
pub record IsPlainOf (g : Gauge) (s plain : System) : Type 0 where
  pub within : IsSystemWithin g plain
  pub normal : IsNormal plain.rows
  pub definitions : plain.definitions ≡ []
  pub columns : plain.columns ≡ free_columns s
  pub points : (point : List ℤ) → length point ≡ free_columns s → HoldsSystem plain point ↔ HoldsSystem s point
