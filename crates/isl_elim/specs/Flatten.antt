-- public: systems in which no column is defined. (isl manual, on integer divisions)
use Rattle.std.specs.Prelude.{◌≡◌, ◌↔◌, ℤ, List, [], All, length}
use Rattle.isl_piece.specs.declared.system.System.{System}
use Rattle.isl_piece.specs.System.{HoldsSystem, free_columns}
use Rattle.isl_elim.specs.Elimination.{HoldsAtAny}

-- the new systems have the free columns of the old one and define none, and some of them holds at a point exactly where the old one does
pub record IsFlattening (old : System) (new : List System) : Type 0 where
  pub columns : All (λ s. s.columns ≡ free_columns old) new
  pub definitions : All (λ s. s.definitions ≡ []) new
  pub points : (point : List ℤ) → length point ≡ free_columns old → HoldsAtAny new point ↔ HoldsSystem old point
