-- public: systems with more definitions.
use Rattle.std.specs.Prelude.{◌≡◌, ◌↔◌, ℤ, List, ◌++◌, length}
use Rattle.isl_meter.specs.Gauge.{Gauge}
use Rattle.isl_piece.specs.declared.definition.Definition.{Definition}
use Rattle.isl_piece.specs.declared.system.System.{System}
use Rattle.isl_piece.specs.System.{HoldsSystem, IsSystemWithin, free_columns}

-- the new system has some more defined columns behind the old ones, is within the limit, and holds where the old one does
pub record Extends (g : Gauge) (old new : System) : Type 0 where
  pub definitions : (more : List Definition) × (new.definitions ≡ old.definitions ++ more)
  pub free : free_columns new ≡ free_columns old
  pub within : IsSystemWithin g new
  pub points : (point : List ℤ) → length point ≡ free_columns old → HoldsSystem new point ↔ HoldsSystem old point
