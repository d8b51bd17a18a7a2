use Rattle.std.proofs.Common.{take}
use Rattle.std.specs.List.{All}
use Rattle.isl_meter.specs.Gauge.{IsCharged}
use Rattle.isl_schedule.specs.Differ.{IsSingleWith}
use Rattle.isl_schedule.proofs.times.is_single.Given as goal

abbrev pub invariant-loop-other : goal.invariant-loop-other
invariant-loop-other l = All (λ other. IsSingleWith l.params l.one other) (take l.other-index l.others) × IsCharged l.fn.meter l.meter
