use Rattle.std.proofs.Common.{length}
use Rattle.isl_meter.specs.Gauge.{IsCharged}
use Rattle.isl_span.specs.Points.{AreFormsFor, IsPoint}
use Rattle.isl_span.proofs.hull.rows_through.Given as goal

abbrev pub invariant-loop-at : goal.invariant-loop-at
invariant-loop-at l = record {
  forms : AreFormsFor l.fn.meter (length l.point) (IsPoint (length l.point) l.systems) l.at l.forms;
  charged : IsCharged l.fn.meter l.meter;
}

abbrev pub decreases-loop-at : goal.decreases-loop-at
decreases-loop-at l = l.at
