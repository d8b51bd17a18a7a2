use Rattle.std.proofs.Common.{◌≡◌, map, take}
use Rattle.std.specs.List.{All}
use Rattle.isl_union.specs.Piece.{kept_piece, IsPieceOf}
use Rattle.isl_maps.specs.Inverse.{inverse_piece}
use Rattle.isl_maps.proofs.turned.inverse_pieces.Given as goal

abbrev pub invariant-loop-piece : goal.invariant-loop-piece
invariant-loop-piece l = record {
  exact : map kept_piece l.turned.items ≡ map (inverse_piece l.params) (take l.piece-index (map kept_piece l.pieces));
  sound : All (IsPieceOf l.params) l.turned.items;
}
