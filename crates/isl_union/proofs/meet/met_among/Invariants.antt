use Rattle.std.proofs.Common.{◌≡◌, ◌+◌, ◌*◌, ◌≤◌, ℕ, map, take}
use Rattle.std.specs.List.{All}
use Rattle.isl_ledger.specs.Difference.{IsDifferenceSystem}
use Rattle.isl_ledger.specs.Work.{AreOfSize}
use Rattle.isl_difference.specs.Tame.{test_work}
use Rattle.isl_union.specs.Fault.{IsChargedFrom}
use Rattle.isl_union.specs.Live.{AreLiveOf}
use Rattle.isl_union.specs.Meet.{met_with, partners}
use Rattle.isl_union.specs.Piece.{kept_piece, IsPieceOf}
use Rattle.isl_union.specs.Tame.{size_of, systems_of}
use Rattle.isl_union.proofs.meet.met_among.Given as goal

abbrev pub invariant-loop-other : goal.invariant-loop-other
invariant-loop-other l = record {
  met : AreLiveOf l.params (met_with l.params (take l.other-index (map kept_piece l.others)) (kept_piece l.piece))
      (map kept_piece l.met.items);
  sound : All (IsPieceOf l.params) l.met.items;
  tame : (columns bits : ℕ) → l.fn.meter.bits ≡ 127 → bits + columns ≤ 120 → IsDifferenceSystem columns bits l.piece.system
      → All (IsDifferenceSystem columns bits) (systems_of l.others)
      → (l.meter.units ≤ l.fn.meter.units + l.other-index * test_work columns)
      × AreOfSize (size_of l.other-index columns bits) (systems_of l.met.items);
  used : IsChargedFrom (partners (take l.other-index (map kept_piece l.others)) (kept_piece l.piece)) l.fn.meter l.meter;
}
