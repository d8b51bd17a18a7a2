use Rattle.std.proofs.Common.{◌≡◌, map, take}
use Rattle.std.specs.List.{All}
use Rattle.isl_union.specs.Moved.{aligned}
use Rattle.isl_union.specs.Piece.{kept_piece, IsPieceOf}
use Rattle.isl_union.proofs.aligned.moved_pieces.Given as goal

abbrev pub invariant-loop-piece : goal.invariant-loop-piece
invariant-loop-piece l = record {
  exact : map kept_piece l.moved.items ≡ map (aligned l.all l.names) (take l.piece-index (map kept_piece l.pieces));
  sound : All (IsPieceOf l.all) l.moved.items;
}
