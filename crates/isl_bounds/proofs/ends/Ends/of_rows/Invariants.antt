use Rattle.std.proofs.Common.{take}
use Rattle.isl_bounds.specs.Ends.{AreEndsOf}
use Rattle.isl_bounds.proofs.ends.Ends.of_rows.Given as goal

abbrev pub invariant-loop-row : goal.invariant-loop-row
invariant-loop-row l = AreEndsOf l.meter l.variables (take l.row-index l.rows) l.ends
