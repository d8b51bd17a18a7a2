use Rattle.std.proofs.Common.{◌≡◌, ◌+◌, ◌≤◌, ℕ, map, take}
use Rattle.std.specs.List.{All}
use Rattle.isl_meter.specs.Gauge.{IsCharged}
use Rattle.isl_piece.specs.Row.{IsRowWithin}
use Rattle.isl_ledger.specs.Difference.{IsDifferenceRow}
use Rattle.isl_span.specs.Moved.{moved_row}
use Rattle.isl_span.proofs.moved.moved.Given as goal

abbrev pub invariant-loop-row : goal.invariant-loop-row
invariant-loop-row l = record {
  rows : l.rows ≡ map (moved_row l.last) (take l.row-index l.system.rows);
  within : All (IsRowWithin l.fn.meter) l.rows;
  charged : IsCharged l.fn.meter l.meter;
  tame : (bits : ℕ) → l.fn.meter.bits ≡ 127 → bits + 1 ≤ 120 → All (IsDifferenceRow bits) l.system.rows → l.meter.units ≤ l.fn.meter.units;
}
