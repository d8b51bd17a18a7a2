use Rattle.std.proofs.Common.{take}
use Rattle.isl_shadows.proofs.CountLemmas.{AreLeft}
use Rattle.isl_column.proofs.neighbours.leaves_one.Given as goal

abbrev pub invariant-loop-row : goal.invariant-loop-row
invariant-loop-row l = AreLeft l.column.columns l.column.at (take l.row-index l.rows) l.numbers l.left
