-- inner: systems with more columns that are equal to some that they have.
use Rattle.std.specs.Prelude.{ℕ, ◌+◌, pos, negsuc, List, [], ◌∷◌, ◌++◌, map}
use Rattle.std.specs.List.{range_with_len}
use Rattle.isl_piece.specs.declared.row.RowKind.TheVariants.{Zero}
use Rattle.isl_piece.specs.declared.row.Row.{Row}
use Rattle.isl_piece.specs.declared.system.System.{System}
use Rattle.isl_piece.specs.Meet.{placed}
use Rattle.isl_piece.specs.Placed.{placed_system}
use Rattle.isl_piece.specs.System.{free_columns}

-- the row that asks two of so many columns to be equal
abbrev pub equal_row : ℕ → ℕ → ℕ → Row
equal_row columns first second = record {
  kind = Zero;
  coefs = placed columns (first ∷ second ∷ []) (pos 1 ∷ negsuc 0 ∷ []);
  constant = pos 0;
  k = pos 1;
}

-- rows that ask each of so many columns from the first on to be equal to the one at its place from the second on
abbrev pub equal_rows : ℕ → ℕ → ℕ → ℕ → List Row
equal_rows columns first second count = map (λ i. equal_row columns (first + i) (second + i)) (range_with_len 0 count)

-- the system with rows behind its own
abbrev pub with_equal_rows : ℕ → ℕ → ℕ → System → System
with_equal_rows first second count s = record {
  columns = s.columns;
  definitions = s.definitions;
  rows = s.rows ++ equal_rows s.columns first second count;
}

-- the system with so many more columns behind its free ones, each equal to the one at its place from the first on
unfoldable pub copied_system : ℕ → ℕ → System → System
copied_system first count s =
    with_equal_rows first (free_columns s) count (placed_system (free_columns s + count) (range_with_len 0 (free_columns s)) s)
