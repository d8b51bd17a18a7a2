use Rattle.std.proofs.Common.{◌≡◌, ℕ, ◌+◌, ◌*◌, ◌<◌, ◌≤◌, [], ◌∷◌, length, take}
use Rattle.std.specs.List.{All}
use Rattle.isl_meter.specs.Gauge.{IsCharged}
use Rattle.isl_ledger.specs.Difference.{IsDifferenceSystem}
use Rattle.isl_ledger.specs.Work.{row_limit}
use Rattle.isl_difference.specs.Difference.{IsCovered}
use Rattle.isl_difference.specs.Tame.{HasFewDifferences, part_limit, test_work}
use Rattle.isl_difference.proofs.cover.are_inside.Given as goal

abbrev pub invariant-loop-system : goal.invariant-loop-system
invariant-loop-system l = record {
  covered : All (λ s. IsCovered s (l.other ∷ [])) (take l.system-index l.systems);
  charged : IsCharged l.fn.meter l.meter;
  tame : (columns bits : ℕ) → l.fn.meter.bits ≡ 127 → bits + 1 + columns ≤ 120 → All (IsDifferenceSystem columns (bits + 1)) l.systems
      → HasFewDifferences columns bits l.other → length l.other.rows < row_limit columns
      → l.meter.units ≤ l.fn.meter.units + length (take l.system-index l.systems) * (part_limit columns 1 * test_work columns);
}
