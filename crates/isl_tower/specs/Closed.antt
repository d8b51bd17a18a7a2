-- inner: systems that are closed: of a tower with closed levels one says that it is bounded.
use Rattle.std.specs.Prelude.{◌⊎◌, ◌-◌}
use Rattle.isl_piece.specs.declared.system.System.{System}
use Rattle.isl_piece.specs.System.{HoldsSystem, free_columns}
use Rattle.isl_elim.specs.Sample.{IsNowhere}
use Rattle.isl_tower.specs.Ends.{HasLowerEnd, HasUpperEnd}

-- the last column has an end on each side, or there is no point
abbrev pub IsClosed : System → Type 0
IsClosed s = (HasLowerEnd (free_columns s - 1) s.rows × HasUpperEnd (free_columns s - 1) s.rows) ⊎ IsNowhere (free_columns s)
    (HoldsSystem s)
