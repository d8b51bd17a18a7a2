use Rattle.std.proofs.Common.{take}
use Rattle.isl_piece.specs.Row.{HoldsRow}
use Rattle.isl_bounds.proofs.BoundLaws.{AreBounds}
use Rattle.isl_bounds.proofs.bound.group_bound.Given as goal

abbrev pub invariant-loop-row : goal.invariant-loop-row
invariant-loop-row l = AreBounds l.meter l.variables l.side HoldsRow (take l.row-index l.rows) l.bounds
