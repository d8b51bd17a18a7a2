use Rattle.std.proofs.Common.{◌≡◌, ◌+◌, ◌*◌, ◌≤◌, ℕ, All, length, map, take}
use Rattle.isl_meter.specs.Gauge.{IsCharged}
use Rattle.isl_ledger.specs.Difference.{IsDifferenceSystem}
use Rattle.isl_difference.specs.Tame.{left_work}
use Rattle.isl_union.specs.Minus.{AreCovered}
use Rattle.isl_union.specs.Piece.{kept_piece}
use Rattle.isl_union.specs.Tame.{systems_of}
use Rattle.isl_union.proofs.compare.are_covered.Given as goal

abbrev pub invariant-loop-piece : goal.invariant-loop-piece
invariant-loop-piece l = record {
  covered : AreCovered l.params (map kept_piece (take l.piece-index l.pieces)) (map kept_piece l.others);
  tame : (columns bits : ℕ) → l.fn.meter.bits ≡ 127 → bits + 1 + columns ≤ 120
      → All (IsDifferenceSystem columns bits) (systems_of l.pieces) → All (IsDifferenceSystem columns bits) (systems_of l.others)
      → l.meter.units ≤ l.fn.meter.units + l.piece-index * left_work columns (length l.others);
  charged : IsCharged l.fn.meter l.meter;
}
