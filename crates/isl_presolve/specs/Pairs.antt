-- public: where taking a column out adds many rows: then a row for each pair of its bounds stands for these. (Fourier and Motzkin; Pugh)
use Rattle.std.specs.Prelude.{ℕ, ◌+◌, ◌≤◌, Bool, true, false, List, length}
use Rattle.isl_piece.specs.declared.row.Row.{Row}
use Rattle.isl_omega.specs.Equality.{HasEquality}
use Rattle.isl_omega.specs.Sides.{on_side}
use Rattle.isl_omega.specs.declared.sides.Side.{Side}
use Rattle.isl_omega.specs.declared.sides.Side.TheVariants.{Lower, Upper}
use Rattle.isl_shadows.specs.Exact.{pairs_on}

-- no equality has the column, and its pairs are 8 more than its bounds, or more
pub record AddsManyRows (rows : List Row) (col : ℕ) : Type 0 where
  pub no_equality : ¬ HasEquality col rows
  pub many : length (on_side Lower col rows) + length (on_side Upper col rows) + 8 ≤ pairs_on col rows

-- ---- inside
-- the side of bounds from below, or of those from above
abbrev pub bound_side : Bool → Side
bound_side true = Lower
bound_side false = Upper
