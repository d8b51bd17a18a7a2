use Rattle.std.proofs.Common.{[], take}
use Rattle.isl_difference.proofs.SplitLaws.{IsSplitBy}
use Rattle.isl_difference.proofs.split.hold_throughout.Given as goal

abbrev pub invariant-loop-row : goal.invariant-loop-row
invariant-loop-row l = IsSplitBy l.fn.meter l.meter l.system (take l.row-index l.rows) l.rest []
