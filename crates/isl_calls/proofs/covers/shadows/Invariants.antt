use Rattle.std.proofs.Common.{◌≤◌, ◌<◌, length}
use Rattle.isl_meter.specs.Gauge.{IsCharged}
use Rattle.isl_calls.specs.Covers.{AreLone}
use Rattle.isl_calls.specs.Level.{AreUpper}
use Rattle.isl_calls.proofs.covers.shadows.Given as goal

abbrev pub invariant-loop-width : goal.invariant-loop-width
invariant-loop-width l = AreUpper l.fn.meter l.system l.width l.levels.items × (0 < length l.levels.items) ×
    (l.outer ≤ l.width) × IsCharged l.fn.meter l.meter × AreLone l.system l.levels.items

abbrev pub decreases-loop-width : goal.decreases-loop-width
decreases-loop-width l = l.width
