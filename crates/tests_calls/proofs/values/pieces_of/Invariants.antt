use Rattle.std.proofs.Common.{All}
use Rattle.isl_union.specs.Piece.{IsPieceOver}
use Rattle.tests_calls.proofs.values.pieces_of.Given as goal

abbrev pub invariant-loop-written : goal.invariant-loop-written
invariant-loop-written l = All (IsPieceOver l.meter l.params) l.pieces.items
