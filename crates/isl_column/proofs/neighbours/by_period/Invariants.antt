use Rattle.std.proofs.Common.{take}
use Rattle.std.specs.List.{All}
use Rattle.isl_omega.specs.Sides.{IsNotDivides}
use Rattle.isl_shadows.specs.Neighbours.{Has}
use Rattle.isl_column.proofs.neighbours.by_period.Given as goal

abbrev pub invariant-loop-row : goal.invariant-loop-row
invariant-loop-row l =
    All (IsNotDivides l.meter l.column.columns l.column.at) l.ordered.items × All (Has l.ordered.items) (take l.row-index l.rows)
