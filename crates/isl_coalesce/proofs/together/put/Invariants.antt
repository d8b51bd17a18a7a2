use Rattle.std.proofs.Common.{[], ◌∷◌, ◌++◌, length}
use Rattle.isl_meter.specs.Gauge.{IsCharged}
use Rattle.isl_assumed.specs.Assumed.{Assumes}
use Rattle.isl_coalesce.proofs.ValueLaws.{AreUnderWay}
use Rattle.isl_coalesce.proofs.together.put.Given as goal

abbrev pub invariant-loop-last : goal.invariant-loop-last
invariant-loop-last l =
    AreUnderWay l.fn.meter (Assumes l.known) l.params (l.fn.kept ++ l.fn.piece ∷ []) l.kept l.last × IsCharged l.fn.meter l.meter

abbrev pub decreases-loop-last : goal.decreases-loop-last
decreases-loop-last l = length l.kept
