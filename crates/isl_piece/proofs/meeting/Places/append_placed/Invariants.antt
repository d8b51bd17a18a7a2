use Rattle.std.proofs.Common.{◌≡◌, ◌++◌, map, take}
use Rattle.isl_piece.specs.Meet.{placed_row}
use Rattle.isl_piece.proofs.meeting.Places.append_placed.Given as goal

abbrev pub invariant-loop-row : goal.invariant-loop-row
invariant-loop-row l = l.rows ≡ l.initial.rows ++ map (placed_row l.columns l.self) (take l.row-index l.other)
