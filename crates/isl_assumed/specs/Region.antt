-- public: systems over the columns of names. (isl manual, on parameter domains)
use Rattle.std.specs.Prelude.{List, All, length}
use Rattle.isl_meter.specs.Gauge.{Gauge}
use Rattle.isl_space.specs.Name.{Name}
use Rattle.isl_space.specs.Names.{IsParameterList}
use Rattle.isl_piece.specs.declared.system.System.{System}
use Rattle.isl_difference.specs.Split.{IsLive}

-- names that a value may declare, and normal systems over their columns, each with a point, within the limit
pub record IsRegion (g : Gauge) (names : List Name) (systems : List System) : Type 0 where
  pub named : IsParameterList names
  pub live : All (IsLive g (length names)) systems
