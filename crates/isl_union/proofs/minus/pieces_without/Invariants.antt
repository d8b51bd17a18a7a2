use Rattle.std.proofs.Common.{◌≡◌, ◌+◌, ◌*◌, ◌≤◌, ℕ, [], All, length, map, take}
use Rattle.isl_meter.specs.Gauge.{IsCharged}
use Rattle.isl_ledger.specs.Difference.{IsDifferenceSystem}
use Rattle.isl_ledger.specs.Work.{AreOfSize}
use Rattle.isl_difference.specs.Tame.{left_work}
use Rattle.isl_union.specs.Minus.{AreLeftOf}
use Rattle.isl_union.specs.Piece.{kept_piece}
use Rattle.isl_union.specs.Tame.{minus_size, systems_of}
use Rattle.isl_union.proofs.minus.pieces_without.Given as goal

abbrev pub invariant-loop-piece : goal.invariant-loop-piece
invariant-loop-piece l = record {
  left : AreLeftOf l.fn.meter l.params (map kept_piece (take l.piece-index l.pieces)) (map kept_piece l.others) l.left.items;
  definitions : All (λ piece. piece.system.definitions ≡ []) l.pieces → All (λ other. other.system.definitions ≡ []) l.others
      → All (λ part. part.system.definitions ≡ []) l.left.items;
  tame : (columns bits : ℕ) → l.fn.meter.bits ≡ 127 → bits + 1 + columns ≤ 120
      → All (IsDifferenceSystem columns bits) (systems_of l.pieces) → All (IsDifferenceSystem columns bits) (systems_of l.others)
      → (l.meter.units ≤ l.fn.meter.units + l.piece-index * left_work columns (length l.others))
      × AreOfSize (minus_size l.piece-index (length l.others) columns bits) (systems_of l.left.items);
  charged : IsCharged l.fn.meter l.meter;
  counted : length l.left.items + l.fn.meter.units ≤ l.meter.units + length (take l.piece-index l.pieces);
}
