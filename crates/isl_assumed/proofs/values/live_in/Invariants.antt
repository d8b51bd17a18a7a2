use Rattle.std.proofs.Common.{All, map, take}
use Rattle.isl_meter.specs.Gauge.{IsCharged}
use Rattle.isl_space.specs.Valuation.{values_of}
use Rattle.isl_elim.specs.Elimination.{HoldsAtAny}
use Rattle.isl_union.specs.Piece.{kept_piece, IsPieceOf}
use Rattle.isl_assumed.specs.Values.{AreLiveAt}
use Rattle.isl_assumed.proofs.values.live_in.Given as goal

abbrev pub invariant-loop-piece : goal.invariant-loop-piece
invariant-loop-piece l = record {
  live : AreLiveAt (λ v. HoldsAtAny l.systems.items (values_of l.params v)) l.params (map kept_piece (take l.piece-index l.pieces))
      (map kept_piece l.kept.items);
  sound : All (IsPieceOf l.params) l.kept.items;
  charged : IsCharged l.fn.meter l.meter;
}
