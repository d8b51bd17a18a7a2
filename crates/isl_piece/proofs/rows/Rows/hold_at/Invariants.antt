use Rattle.std.proofs.Common.{◌≡◌, take}
use Rattle.isl_piece.specs.System.{HoldRows}
use Rattle.isl_piece.proofs.rows.Rows.hold_at.Given as goal

abbrev pub invariant-loop-row : goal.invariant-loop-row
invariant-loop-row l = HoldRows (take l.row-index l.self) l.point × (l.meter ≡ l.initial.meter)
