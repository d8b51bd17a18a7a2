use Rattle.std.proofs.Common.{◌≡◌, ◌++◌, take}
use Rattle.isl_piece.proofs.rows.Rows.append.Given as goal

abbrev pub invariant-loop-row : goal.invariant-loop-row
invariant-loop-row l = l.self ≡ l.initial.self ++ take l.row-index l.other
