use Rattle.std.proofs.Common.{◌≤◌, length}
use Rattle.isl_meter.specs.Gauge.{IsCharged}
use Rattle.isl_frame.specs.Needed.{IsNeeded}
use Rattle.isl_frame.proofs.NeededLaws.{NoneFrom}
use Rattle.isl_frame.proofs.context.needed.Given as goal

abbrev pub invariant-loop-at : goal.invariant-loop-at
invariant-loop-at l =
    (l.at ≤ length l.kept) × (l.least ≤ length l.fn.rows → l.least ≤ length l.kept)
    × IsNeeded l.variables l.context l.fn.rows l.kept × IsCharged l.fn.meter l.meter × NoneFrom l.variables l.context l.at l.kept

abbrev pub decreases-loop-at : goal.decreases-loop-at
decreases-loop-at l = l.at
