use Rattle.std.proofs.Common.{take}
use Rattle.std.specs.List.{All}
use Rattle.isl_meter.specs.Gauge.{IsCharged}
use Rattle.isl_schedule.specs.Differ.{IsSingleWith}
use Rattle.isl_schedule.proofs.times.are_single.Given as goal

abbrev pub invariant-loop-one : goal.invariant-loop-one
invariant-loop-one l =
    All (λ one. All (λ other. IsSingleWith l.params one other) l.visits) (take l.one-index l.visits) × IsCharged l.fn.meter l.meter
