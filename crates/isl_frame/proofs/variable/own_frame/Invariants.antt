use Rattle.std.proofs.Common.{◌≤◌}
use Rattle.std.specs.List.{All}
use Rattle.isl_meter.specs.Gauge.{Gauge}
use Rattle.isl_piece.specs.Row.{IsRowWithin}
use Rattle.isl_frame.specs.Frame.{IsOwnFrame}
use Rattle.isl_frame.proofs.variable.own_frame.Given as goal

abbrev pub invariant-loop-i : goal.invariant-loop-i
invariant-loop-i l = IsOwnFrame l.i l.frame × ((g : Gauge) → 8 ≤ g.bits → All (IsRowWithin g) l.frame)
