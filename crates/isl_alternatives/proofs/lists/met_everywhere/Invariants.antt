use Rattle.std.proofs.Common.{◌+◌, ◌≤◌}
use Rattle.isl_meter.specs.Gauge.{IsCharged}
use Rattle.isl_alternatives.proofs.lists.met_everywhere.Given as goal

abbrev pub invariant-loop-other : goal.invariant-loop-other
invariant-loop-other l = (l.fn.meter.units + l._other ≤ l.meter.units) × IsCharged l.fn.meter l.meter
