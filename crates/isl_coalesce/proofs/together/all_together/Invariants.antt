use Rattle.std.proofs.Common.{take}
use Rattle.isl_meter.specs.Gauge.{IsCharged}
use Rattle.isl_assumed.specs.Assumed.{Assumes}
use Rattle.isl_coalesce.specs.Found.{AreJoined}
use Rattle.isl_coalesce.proofs.together.all_together.Given as goal

abbrev pub invariant-loop-piece : goal.invariant-loop-piece
invariant-loop-piece l =
    AreJoined l.fn.meter (Assumes l.known) l.params (take l.piece-index l.pieces) l.kept × IsCharged l.fn.meter l.meter
