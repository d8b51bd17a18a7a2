-- public: columns whose shadow is exact: wherever a rational number meets the bounds a whole one does, so that their real rows are all that is left.
-- (Pugh, the Omega test)
use Rattle.std.specs.Prelude.{◌≡◌, ◌≢◌, ◌⊎◌, ℕ, pos, List, [], ◌∷◌, ◌++◌, ◌*◌, All, length, map, Option}
use Rattle.isl_math.specs.Order.{abs_of}
use Rattle.isl_meter.specs.Gauge.{Gauge}
use Rattle.isl_piece.specs.declared.row.Row.{Row}
use Rattle.isl_piece.specs.Normal.{normal_rows}
use Rattle.isl_piece.specs.Row.{IsRowWithin, coef_at}
use Rattle.isl_omega.specs.Column.{dropped}
use Rattle.isl_omega.specs.Shadow.{real_row}
use Rattle.isl_omega.specs.Sides.{side_of, on_side}
use Rattle.isl_omega.specs.declared.sides.Side.{Side}
use Rattle.isl_omega.specs.declared.sides.Side.TheVariants.{Lower, Upper, Divides, NotDivides, Free}

-- the row is no congruence that depends on the column; and if it is a bound on this side, its factor is 1
pub record IsExactRow (side : Side) (col : ℕ) (r : Row) : Type 0 where
  pub lacks_divides : side_of col r ≢ Divides
  pub lacks_not_divides : side_of col r ≢ NotDivides
  pub factor : side_of col r ≡ side → abs_of (coef_at r col) ≡ pos 1

-- no congruence depends on the column, and all lower bounds or all upper bounds have the factor 1
abbrev pub IsExactColumn : ℕ → List Row → Type 0
IsExactColumn col rows = All (IsExactRow Lower col) rows ⊎ All (IsExactRow Upper col) rows

-- ---- what is left
-- the real rows of each lower bound with each upper bound
abbrev pub real_rows : ℕ → List Row → List Row → List Row
real_rows col [] uppers = []
real_rows col (l ∷ lowers) uppers = map (real_row col l) uppers ++ real_rows col lowers uppers

-- the rows that do not depend on the column, and the real rows
abbrev pub rows_left : ℕ → List Row → List Row
rows_left col rows = on_side Free col rows ++ real_rows col (on_side Lower col rows) (on_side Upper col rows)

-- those rows without the column in normal form; none where no point is left
abbrev pub exact_rows : List Row → ℕ → Option (List Row)
exact_rows rows col = normal_rows (map (λ r. dropped r col) (rows_left col rows))

-- how many pairs of a lower and an upper bound there are
abbrev pub pairs_on : ℕ → List Row → ℕ
pairs_on col rows = length (on_side Lower col rows) * length (on_side Upper col rows)

-- rows were added, without the column and within the limit
pub record AreAdded (g : Gauge) (col : ℕ) (rows old new : List Row) : Type 0 where
  pub pushed : new ≡ old ++ map (λ r. dropped r col) rows
  pub within : All (IsRowWithin g) (map (λ r. dropped r col) rows)
