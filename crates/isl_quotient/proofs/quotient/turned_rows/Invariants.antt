use Rattle.std.proofs.Common.{◌≡◌, map, take}
use Rattle.isl_quotient.specs.Quotient.{turned_row}
use Rattle.isl_quotient.proofs.quotient.turned_rows.Given as goal

abbrev pub invariant-loop-row : goal.invariant-loop-row
invariant-loop-row l = l.made ≡ map (turned_row l.col) (take l.row-index l.rows)
