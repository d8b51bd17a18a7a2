use Rattle.std.proofs.Common.{take}
use Rattle.std.specs.List.{All}
use Rattle.isl_loop.specs.Formed.{IsRowOver}
use Rattle.isl_ast.proofs.formed.are_rows_over.Given as goal

abbrev pub invariant-loop-row : goal.invariant-loop-row
invariant-loop-row l = All (IsRowOver l.meter l.columns) (take l.row-index l.rows)
