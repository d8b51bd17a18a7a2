use Rattle.std.proofs.Common.{◌≤◌, length}
use Rattle.isl_redundant.specs.Redundant.{IsReduced}
use Rattle.isl_redundant.proofs.reduction.reduced.Given as goal

abbrev pub invariant-loop-at : goal.invariant-loop-at
invariant-loop-at l = (l.at ≤ length l.kept) × IsReduced l.columns l.fn.rows l.kept

abbrev pub decreases-loop-at : goal.decreases-loop-at
decreases-loop-at l = l.at
