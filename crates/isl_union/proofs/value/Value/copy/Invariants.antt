use Rattle.std.proofs.Common.{◌≡◌, All, map, take}
use Rattle.isl_union.specs.Piece.{kept_piece, IsPieceOf}
use Rattle.isl_union.proofs.value.Value.copy.Given as goal

abbrev pub invariant-loop-piece : goal.invariant-loop-piece
invariant-loop-piece l = (map kept_piece l.pieces.items ≡ map kept_piece (take l.piece-index l.self-inside.pieces.items)) × All
    (IsPieceOf l.self-inside.params) l.pieces.items
