use Rattle.std.proofs.Common.{◌≡◌, map, take}
use Rattle.isl_union.specs.Piece.{kept_piece}
use Rattle.isl_union.proofs.same.are_same_pieces.Given as goal

abbrev pub invariant-loop-i : goal.invariant-loop-i
invariant-loop-i l = map kept_piece (take l.i l.pieces) ≡ map kept_piece (take l.i l.others)
