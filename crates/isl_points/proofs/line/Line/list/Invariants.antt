use Rattle.std.proofs.Common.{◌+◌, ◌-◌, ◌≤◌, length}
use Rattle.std.specs.Prelude.{IfSome}
use Rattle.std.specs.List.{All}
use Rattle.isl_meter.specs.Gauge.{IsCharged, IsWithin}
use Rattle.isl_points.specs.Line.{AreNumbersBefore, IsIn, IsLeft}
use Rattle.isl_points.proofs.line.Line.list.Given as goal

abbrev pub invariant-loop-next : goal.invariant-loop-next
invariant-loop-next l = record {
  numbers : AreNumbersBefore l.next (IsLeft l.self l.rows) l.found.items;
  next_in : IfSome l.next (IsIn l.self);
  within : All (IsWithin l.fn.meter) l.found.items;
  counted : l.fn.meter.units + length l.found.items ≤ l.meter.units;
  charged : IsCharged l.fn.meter l.meter;
}

abbrev pub decreases-loop-next : goal.decreases-loop-next
decreases-loop-next l = l.meter.budget - l.meter.units
