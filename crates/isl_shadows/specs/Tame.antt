-- public: columns that are taken out with units and numbers that are known beforehand: an equality has the column, or it is exact. (Pugh, the
-- Omega test; the bounds are this project's own)
use Rattle.std.specs.Prelude.{ℕ, List, Result}
use Rattle.isl_meter.specs.declared.Cut.{Cut}
use Rattle.isl_meter.specs.Gauge.{Gauge}
use Rattle.isl_piece.specs.declared.row.Row.{Row}
use Rattle.isl_omega.specs.Equality.{HasEquality}
use Rattle.isl_omega.specs.Units.{IsAnsweredFor}
use Rattle.isl_shadows.specs.Exact.{IsExactColumn, pairs_on}
use Rattle.isl_shadows.specs.Magnitude.{IsSparedAt}

-- a limit with room for two products is not passed; and then, where so many units are left, work ends for want of memory alone
pub record IsTameWithin {A : Type 0} (most : ℕ) (old new : Gauge) (rows : List Row) (col : ℕ) (result : Result A Cut) : Type 0 where
  pub numbers : IsSparedAt old rows col result
  pub answered : IsAnsweredFor most old new result

-- what a call that takes the column out leaves: where it is exact, as many units are enough as there are pairs of bounds; and one is where an
-- equality has it
pub record IsTameColumn {A : Type 0} (old new : Gauge) (rows : List Row) (col : ℕ) (result : Result A Cut) : Type 0 where
  pub exact : IsExactColumn col rows → ¬ HasEquality col rows → IsTameWithin (pairs_on col rows) old new rows col result
  pub solved : HasEquality col rows → IsTameWithin 1 old new rows col result
