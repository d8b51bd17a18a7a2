use Rattle.std.proofs.Common.{map, take}
use Rattle.isl_meter.specs.Gauge.{IsCharged}
use Rattle.isl_union.specs.Piece.{kept_piece}
use Rattle.isl_gist.specs.Pieces.{AreLeftOver}
use Rattle.isl_gist.proofs.pieces.left_over.Given as goal

abbrev pub invariant-loop-piece : goal.invariant-loop-piece
invariant-loop-piece l = record {
  left : AreLeftOver l.params (map kept_piece l.others) (map kept_piece (take l.piece-index l.pieces)) l.left.items;
  charged : IsCharged l.fn.meter l.meter;
}
