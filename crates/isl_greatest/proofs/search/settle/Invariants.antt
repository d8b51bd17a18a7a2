use Rattle.std.proofs.Common.{◌-◌}
use Rattle.isl_meter.specs.Gauge.{IsCharged}
use Rattle.isl_greatest.specs.Search.{IsReached}
use Rattle.isl_greatest.specs.State.{IsState}
use Rattle.isl_greatest.proofs.search.settle.Given as goal

abbrev pub invariant-loop-state : goal.invariant-loop-state
invariant-loop-state l = IsState l.fn.meter l.problem l.state × IsReached l.problem l.context l.state × IsCharged l.fn.meter l.meter

abbrev pub decreases-loop-state : goal.decreases-loop-state
decreases-loop-state l = l.meter.budget - l.meter.units
