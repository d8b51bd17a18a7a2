use Rattle.std.proofs.Common.{◌≡◌, take, List}
use Rattle.std.specs.List.{AllZip}
use Rattle.isl_piece.specs.declared.row.Row.{Row}
use Rattle.isl_omega.specs.Shadow.{AreSplintersOf}
use Rattle.isl_omega.proofs.shadow.least_tails.Given as goal

abbrev pub invariant-loop-lower : goal.invariant-loop-lower
invariant-loop-lower l = ((uppers : List Row) → AllZip (AreSplintersOf l.fn.meter l.column.at l.neighbours uppers) (take l.lower-index l.lowers) l.tails.items) × (l.meter ≡ l.fn.meter)
