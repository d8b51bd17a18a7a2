use Rattle.std.proofs.Common.{◌≡◌, ◌+◌, ◌*◌, ◌≤◌, length, take}
use Rattle.isl_meter.specs.Gauge.{IsCharged}
use Rattle.isl_ledger.specs.Work.{AreOfSize, Size}
use Rattle.isl_elim.specs.Elimination.{HoldsAtAny}
use Rattle.isl_elim.specs.Sample.{IsNowhere}
use Rattle.isl_span.specs.Work.{test_units}
use Rattle.isl_span.proofs.points.first_point.Given as goal

abbrev pub invariant-loop-system : goal.invariant-loop-system
invariant-loop-system l = record {
  none : IsNowhere l.columns (HoldsAtAny (take l.system-index l.systems));
  charged : IsCharged l.fn.meter l.meter;
  tame : (size : Size) → l.fn.meter.bits ≡ 127 → size.bits + size.columns ≤ 119 → AreOfSize size l.systems
      → l.meter.units ≤ l.fn.meter.units + length (take l.system-index l.systems) * test_units size.columns;
}
