use Rattle.std.proofs.Common.{◌≡◌, ◌+◌, ◌*◌, ◌≤◌, ℕ, length, map, sum_by, take}
use Rattle.std.specs.List.{All}
use Rattle.isl_ledger.specs.Difference.{IsDifferenceSystem}
use Rattle.isl_ledger.specs.Work.{AreOfSize}
use Rattle.isl_difference.specs.Tame.{test_work}
use Rattle.isl_union.specs.Fault.{IsChargedFrom}
use Rattle.isl_union.specs.Live.{AreLiveOf}
use Rattle.isl_union.specs.Meet.{met_pieces, partners}
use Rattle.isl_union.specs.Piece.{kept_piece, IsPieceOf}
use Rattle.isl_union.specs.Tame.{size_of, systems_of}
use Rattle.isl_union.proofs.meet.met_pieces.Given as goal

abbrev pub invariant-loop-piece : goal.invariant-loop-piece
invariant-loop-piece l = record {
  met : AreLiveOf l.params (met_pieces l.params (take l.piece-index (map kept_piece l.pieces)) (map kept_piece l.others))
      (map kept_piece l.met.items);
  sound : All (IsPieceOf l.params) l.met.items;
  tame : (columns bits : ℕ) → l.fn.meter.bits ≡ 127 → bits + columns ≤ 120 → All (IsDifferenceSystem columns bits) (systems_of l.pieces)
      → All (IsDifferenceSystem columns bits) (systems_of l.others)
      → (l.meter.units ≤ l.fn.meter.units + l.piece-index * (length l.others * test_work columns))
      × AreOfSize (size_of (l.piece-index * length l.others) columns bits) (systems_of l.met.items);
  used : IsChargedFrom (sum_by (partners (map kept_piece l.others)) (take l.piece-index (map kept_piece l.pieces))) l.fn.meter l.meter;
}
