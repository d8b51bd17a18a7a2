-- inner: covers, as lists of rows.
use Rattle.std.specs.Prelude.{List, map}
use Rattle.isl_piece.specs.declared.row.Row.{Row}
use Rattle.isl_piece.specs.declared.system.System.{System}

abbrev pub rows_of : System → List Row
rows_of s = s.rows

abbrev pub covers_of : List (List System) → List (List (List Row))
covers_of levels = map (map rows_of) levels
