use Rattle.std.proofs.Common.{map, take}
use Rattle.std.specs.List.{All}
use Rattle.isl_union.specs.Piece.{kept_piece, IsPieceOf}
use Rattle.isl_maps.specs.Change.{AreImages}
use Rattle.isl_maps.proofs.change.Change.images.Given as goal

abbrev pub invariant-loop-piece : goal.invariant-loop-piece
invariant-loop-piece l = record {
  images : AreImages l.self l.params (take l.piece-index (map kept_piece l.pieces)) (map kept_piece l.made.items);
  sound : All (IsPieceOf l.params) l.made.items;
}
