use Rattle.std.proofs.Common.{◌≡◌, ◌+◌, ◌*◌, ◌≤◌, ℕ, map, take, filter_map}
use Rattle.std.specs.List.{All}
use Rattle.isl_meter.specs.Gauge.{IsCharged}
use Rattle.isl_ledger.specs.Answered.{IsTameSoFar}
use Rattle.isl_ledger.specs.Work.{AreOfSize}
use Rattle.isl_difference.specs.Tame.{HasNormalDifferences}
use Rattle.isl_union.specs.Live.{normal_of, AreLiveOf}
use Rattle.isl_union.specs.Piece.{kept_piece, IsPieceOf}
use Rattle.isl_union.specs.Tame.{size_of, systems_of}
use Rattle.isl_union.proofs.live.live_pieces.Given as goal

abbrev pub invariant-loop-piece : goal.invariant-loop-piece
invariant-loop-piece l = record {
  kept : AreLiveOf l.params (filter_map normal_of (take l.piece-index (map kept_piece l.pieces))) (map kept_piece l.kept.items);
  sound : All (IsPieceOf l.params) l.kept.items;
  tame : (columns bits : ℕ) → l.fn.meter.bits ≡ 127 → bits + columns ≤ 120 → All (λ piece. HasNormalDifferences columns bits piece.system) l.pieces
      → IsTameSoFar l.piece-index (columns * (columns * columns)) l.fn.meter l.meter
      (AreOfSize (size_of l.piece-index columns bits) (systems_of l.kept.items));
  charged : IsCharged l.fn.meter l.meter;
}
