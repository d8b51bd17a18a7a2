-- public: what is spent on rows of one column that goes. (Pugh, the Omega test)
use Rattle.std.specs.Prelude.{◌≡◌, ℕ, pos, ◌+ℤ◌, ◌≤ℤ◌, List, Result}
use Rattle.isl_meter.specs.declared.Cut.{Cut}
use Rattle.isl_meter.specs.Gauge.{Gauge}
use Rattle.isl_omega.specs.Equality.{HasEquality}
use Rattle.isl_piece.specs.declared.row.Row.{Row}
use Rattle.isl_shadows.specs.Magnitude.{IsSpared}
use Rattle.isl_shadows.specs.Units.{elimination_units}

-- at most the units of elimination, none where an equality has the column; and of small numbers, with one congruence on it at most, none
-- passes a limit of 127 bits
pub record IsSpentOn {A : Type 0} (rows : List Row) (col : ℕ) (old new : Gauge) (result : Result A Cut) : Type 0 where
  pub units : pos new.units ≤ℤ (pos old.units +ℤ elimination_units rows col)
  pub equality : HasEquality col rows → new.units ≡ old.units
  pub magnitude : IsSpared old rows col result
