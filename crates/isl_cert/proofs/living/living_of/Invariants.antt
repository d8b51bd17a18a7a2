use Rattle.std.proofs.Common.{◌≡◌, ◌≤◌, ◌+◌, ◌*◌, ℕ, length, map, take}
use Rattle.std.specs.List.{All}
use Rattle.isl_meter.specs.Gauge.{IsCharged}
use Rattle.isl_ledger.specs.Difference.{IsDifferenceSystem}
use Rattle.isl_cert.specs.Living.{AreLiving}
use Rattle.isl_cert.proofs.living.living_of.Given as goal

abbrev pub invariant-loop-system : goal.invariant-loop-system
invariant-loop-system l = record {
  living : AreLiving (take l.system-index l.systems) (map (λ s. s.now) l.living.items);
  charged : IsCharged l.fn.meter l.meter;
  tame : (columns bits : ℕ) → l.fn.meter.bits ≡ 127 → bits + columns ≤ 120 → All (IsDifferenceSystem columns bits) l.systems
      → l.meter.units ≤ l.fn.meter.units + length (take l.system-index l.systems) * (columns * (columns * columns));
}
