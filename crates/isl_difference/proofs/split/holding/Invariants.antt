use Rattle.std.proofs.Common.{take}
use Rattle.isl_difference.proofs.SplitLaws.{IsFailing}
use Rattle.isl_difference.proofs.split.holding.Given as goal

abbrev pub invariant-loop-row : goal.invariant-loop-row
invariant-loop-row l = IsFailing l.fn.meter l.meter l.system (take l.row-index l.rows) l.parts.items
