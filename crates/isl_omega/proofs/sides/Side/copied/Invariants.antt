use Rattle.std.proofs.Common.{◌≡◌, take}
use Rattle.isl_omega.specs.Sides.{on_side}
use Rattle.isl_omega.proofs.sides.Side.copied.Given as goal

abbrev pub invariant-loop-row : goal.invariant-loop-row
invariant-loop-row l = l.picked ≡ on_side l.self l.column.at (take l.row-index l.rows)
