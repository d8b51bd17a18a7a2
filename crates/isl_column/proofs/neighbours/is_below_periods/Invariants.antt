use Rattle.std.proofs.Common.{take}
use Rattle.isl_shadows.proofs.SearchLemmas.{IsLeft}
use Rattle.isl_column.proofs.neighbours.is_below_periods.Given as goal

abbrev pub invariant-loop-row : goal.invariant-loop-row
invariant-loop-row l = IsLeft l.column.at (take l.row-index l.rows) l.fn.number l.left
