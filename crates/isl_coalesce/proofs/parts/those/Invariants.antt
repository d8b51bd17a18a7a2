use Rattle.std.proofs.Common.{take}
use Rattle.isl_meter.specs.Gauge.{IsCharged}
use Rattle.isl_coalesce.specs.Found.{IsKnown, IsTrueThroughout}
use Rattle.isl_coalesce.specs.Parts.{AreThose}
use Rattle.isl_coalesce.proofs.parts.those.Given as goal

abbrev pub invariant-loop-row : goal.invariant-loop-row
invariant-loop-row l =
    AreThose (IsTrueThroughout (IsKnown l.known) l.system) (take l.row-index l.rows) l.kept × IsCharged l.fn.meter l.meter
