use Rattle.isl_meter.specs.Gauge.{IsCharged}
use Rattle.isl_bounds.proofs.PrunedLaws.{NoneBeats}
use Rattle.isl_bounds.proofs.groups.is_beaten.Given as goal

abbrev pub invariant-loop-i : goal.invariant-loop-i
invariant-loop-i l = IsCharged l.fn.meter l.meter × NoneBeats l.columns l.context l.groups l.at l.i
