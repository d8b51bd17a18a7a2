use Rattle.std.proofs.Common.{take}
use Rattle.isl_meter.specs.Gauge.{IsCharged}
use Rattle.isl_coalesce.specs.Found.{IsKnown, IsTrueThroughout}
use Rattle.isl_coalesce.specs.Parts.{AreParts}
use Rattle.isl_coalesce.proofs.parts.parts.Given as goal

abbrev pub invariant-loop-row : goal.invariant-loop-row
invariant-loop-row l =
    AreParts (IsTrueThroughout (IsKnown l.known) l.system) (take l.row-index l.rows) l.kept × IsCharged l.fn.meter l.meter
