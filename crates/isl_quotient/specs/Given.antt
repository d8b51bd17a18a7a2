-- inner: a column that an equation gives.
use Rattle.std.specs.Prelude.{◌≡◌, ◌<◌, ℕ, List, length, slice_index_or}
use Rattle.isl_piece.specs.declared.row.Row.{Row}
use Rattle.isl_elim.specs.Solved.{IsUnitEquality}
use Rattle.isl_quotient.specs.declared.solved.Given.{Given}

-- one of the columns, which the equation at the place has with 1 or -1
pub record IsGivenBy (rows : List Row) (cols : List ℕ) (given : Given) : Type 0 where
  pub index : ℕ
  pub among : index < length cols
  pub column : slice_index_or cols index 0 ≡ given.col
  pub place : given.at < length rows
  pub unit : (d : Row) → IsUnitEquality given.col (slice_index_or rows given.at d)
