use Rattle.std.proofs.Common.{length}
use Rattle.isl_meter.specs.Gauge.{IsCharged}
use Rattle.isl_alternatives.specs.Ahead.{ahead_of}
use Rattle.isl_alternatives.proofs.ChainLaws.{AreCompared, WhereDenied}
use Rattle.isl_alternatives.proofs.chains.with_denied.Given as goal

abbrev pub invariant-loop-comparison : goal.invariant-loop-comparison
invariant-loop-comparison l =
    AreCompared l.fn.meter l.meter l.scope (ahead_of l.fn.ahead) (ahead_of l.ahead) WhereDenied l.systems l.found.items
    × IsCharged l.fn.meter l.meter

abbrev pub decreases-loop-comparison : goal.decreases-loop-comparison
decreases-loop-comparison l = length (ahead_of l.ahead)
