use Rattle.std.proofs.Common.{take}
use Rattle.std.specs.List.{All}
use Rattle.isl_shadows.specs.Exact.{IsExactRow}
use Rattle.isl_column.proofs.exact.are_exact.Given as goal

abbrev pub invariant-loop-row : goal.invariant-loop-row
invariant-loop-row l = All (IsExactRow l.side l.column.at) (take l.row-index l.rows)
