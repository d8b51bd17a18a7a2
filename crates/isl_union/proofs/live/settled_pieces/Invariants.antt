use Rattle.std.proofs.Common.{◌≡◌, map, take}
use Rattle.std.specs.List.{All}
use Rattle.isl_union.specs.Live.{settled}
use Rattle.isl_union.specs.Piece.{kept_piece, IsPieceOf}
use Rattle.isl_union.proofs.live.settled_pieces.Given as goal

abbrev pub invariant-loop-piece : goal.invariant-loop-piece
invariant-loop-piece l = record {
  kept : map kept_piece l.kept.items ≡ map settled (take l.piece-index (map kept_piece l.pieces));
  sound : All (IsPieceOf l.params) l.kept.items;
}
