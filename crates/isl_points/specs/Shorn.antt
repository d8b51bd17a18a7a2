-- inner: rows that have a coefficient at a column, and systems of these alone.
use Rattle.std.specs.Prelude.{ℕ, pos, Bool, not, List}
use Rattle.std.specs.List.{filter}
use Rattle.std.specs.Ordering.{int_eq}
use Rattle.isl_piece.specs.declared.row.Row.{Row}
use Rattle.isl_piece.specs.declared.system.System.{System}
use Rattle.isl_piece.specs.Row.{coef_at}

abbrev pub has_coef : ℕ → Row → Bool
has_coef col r = not (int_eq (coef_at r col) (pos 0))

-- the rows that have a coefficient at the column
abbrev pub rows_on : ℕ → List Row → List Row
rows_on col rows = filter (has_coef col) rows

-- the system of these rows
abbrev pub shorn : ℕ → System → System
shorn col s = record { columns = s.columns; definitions = s.definitions; rows = rows_on col s.rows }
