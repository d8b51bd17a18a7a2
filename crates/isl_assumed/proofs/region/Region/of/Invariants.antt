use Rattle.std.proofs.Common.{map, take}
use Rattle.isl_meter.specs.Gauge.{IsCharged}
use Rattle.isl_union.specs.Piece.{kept_piece}
use Rattle.isl_assumed.specs.Left.{AreLeftOfPieces}
use Rattle.isl_assumed.proofs.region.Region.of.Given as goal

abbrev pub invariant-loop-piece : goal.invariant-loop-piece
invariant-loop-piece l = record {
  left : AreLeftOfPieces l.fn.meter l.value.params (map kept_piece (take l.piece-index l.pieces)) l.systems.items;
  charged : IsCharged l.fn.meter l.meter;
}
