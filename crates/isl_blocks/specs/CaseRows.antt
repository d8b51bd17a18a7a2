-- inner: the rows that compare the numbers of two blocks of columns.
use Rattle.std.specs.Prelude.{ℕ, ◌+◌, ℤ, pos, negsuc, List, [], ◌∷◌, ◌++◌, map, replicate, slice_set}
use Rattle.std.specs.List.{range_with_len}
use Rattle.isl_piece.specs.declared.row.RowKind.{RowKind}
use Rattle.isl_piece.specs.declared.row.RowKind.TheVariants.{Zero, AtLeast}
use Rattle.isl_piece.specs.declared.row.Row.{Row}
use Rattle.isl_piece.specs.declared.system.System.{System}
use Rattle.isl_blocks.specs.declared.cases.Direction.{Direction}
use Rattle.isl_blocks.specs.declared.cases.Direction.TheVariants.{Before, After}

-- the number at one column less that at another one, and a constant
abbrev pub compared_row : RowKind → ℕ → ℕ → ℕ → ℤ → Row
compared_row kind columns plus minus constant = record {
  kind = kind;
  coefs = slice_set (slice_set (replicate columns (pos 0)) plus (pos 1)) minus (negsuc 0);
  constant = constant;
  k = pos 1;
}

-- so many numbers from one column on are those from another one on
abbrev pub same_rows : ℕ → ℕ → ℕ → ℕ → List Row
same_rows columns first second count = map (λ i. compared_row Zero columns (second + i) (first + i) (pos 0)) (range_with_len 0 count)

-- the number at the one column is less than that at the other, or greater
abbrev pub next_row : ℕ → ℕ → ℕ → Direction → Row
next_row columns first second Before = compared_row AtLeast columns second first (negsuc 0)
next_row columns first second After = compared_row AtLeast columns first second (negsuc 0)

-- the rows of a case
abbrev pub case_rows : ℕ → ℕ → ℕ → ℕ → Direction → List Row
case_rows columns first second at direction =
    same_rows columns first second at ++ next_row columns (first + at) (second + at) direction ∷ []

-- the system of the rows over so many columns, none of which is defined
abbrev pub of_rows : ℕ → List Row → System
of_rows columns rows = record { columns = columns; definitions = []; rows = rows }
