use Rattle.std.proofs.Common.{ℕ, ◌<◌}
use Rattle.isl_meter.specs.Gauge.{IsCharged}
use Rattle.isl_schedule.proofs.TimeLaws.{IsNotAt}
use Rattle.isl_schedule.proofs.times.is_never_before.Given as goal

abbrev pub invariant-loop-at : goal.invariant-loop-at
invariant-loop-at l = ((i : ℕ) → i < l.at → IsNotAt l.params l.one l.other i) × IsCharged l.fn.meter l.meter
