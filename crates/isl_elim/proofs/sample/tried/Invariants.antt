use Rattle.std.proofs.Common.{◌-◌, length}
use Rattle.isl_elim.proofs.SampleLaws.{IsTried}
use Rattle.isl_elim.proofs.sample.tried.Given as goal

abbrev pub invariant-loop-whole : goal.invariant-loop-whole
invariant-loop-whole l = IsTried l.fn.meter l.meter (length l.fn.point.items) l.whole.items l.x

abbrev pub decreases-loop-whole : goal.decreases-loop-whole
decreases-loop-whole l = l.meter.budget - l.meter.units
