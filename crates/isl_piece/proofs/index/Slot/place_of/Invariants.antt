use Rattle.std.proofs.Common.{take, None}
use Rattle.isl_piece.specs.Index.{IsPlaceAmong}
use Rattle.isl_piece.proofs.index.Slot.place_of.Given as goal

abbrev pub invariant-loop-place : goal.invariant-loop-place
invariant-loop-place l = IsPlaceAmong l.rows l.row (take l.place-index l.self) None
