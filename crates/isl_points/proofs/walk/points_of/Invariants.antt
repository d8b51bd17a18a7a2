use Rattle.std.proofs.Common.{◌≡◌, ◌+◌, ◌-◌, ◌≤◌, length}
use Rattle.std.specs.List.{All, AllPairs}
use Rattle.isl_math.specs.Order.{IsBefore}
use Rattle.isl_meter.specs.Gauge.{IsCharged, IsWithin}
use Rattle.isl_piece.specs.declared.system.System.{System}
use Rattle.isl_tower.specs.Tower.{IsTowerOf}
use Rattle.isl_points.specs.Level.{AreBeginnings}
use Rattle.isl_points.proofs.walk.points_of.Given as goal

abbrev pub invariant-loop-height : goal.invariant-loop-height
invariant-loop-height l = record {
  exact : (s : System) → IsTowerOf s 0 l.tower → AreBeginnings s (l.height - 1) l.points;
  widths : All (λ q. length q ≡ l.height - 1) l.points;
  ordered : AllPairs IsBefore l.points;
  within : All (All (IsWithin l.fn.meter)) l.points;
  counted : l.fn.meter.units + length l.points ≤ l.meter.units;
  charged : IsCharged l.fn.meter l.meter;
}
