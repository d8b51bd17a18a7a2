use Rattle.std.proofs.Common.{take}
use Rattle.isl_piece.specs.System.{HoldRows}
use Rattle.isl_bounds.proofs.BoundLaws.{AreBounds}
use Rattle.isl_bounds.proofs.bound.bound_of.Given as goal

abbrev pub invariant-loop-rows : goal.invariant-loop-rows
invariant-loop-rows l = AreBounds l.meter l.variables l.side HoldRows (take l.rows-index l.groups) l.bounds
