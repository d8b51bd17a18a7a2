use Rattle.std.proofs.Common.{◌+◌, ◌≤◌}
use Rattle.isl_meter.specs.Gauge.{IsCharged}
use Rattle.isl_alternatives.proofs.lists.pay.Given as goal

abbrev pub invariant-loop-turn : goal.invariant-loop-turn
invariant-loop-turn l = (l.fn.meter.units + l._turn ≤ l.meter.units) × IsCharged l.fn.meter l.meter
