use Rattle.std.proofs.Common.{◌≡◌, map, take}
use Rattle.isl_piece.specs.System.{widened}
use Rattle.isl_frame.proofs.variable.widened.Given as goal

abbrev pub invariant-loop-row : goal.invariant-loop-row
invariant-loop-row l = l.made ≡ map widened (take l.row-index l.rows)
