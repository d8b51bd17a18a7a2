use Rattle.std.proofs.Common.{take}
use Rattle.std.specs.List.{All}
use Rattle.isl_meter.specs.Gauge.{IsCharged}
use Rattle.isl_union.specs.Front.{IsBoundedBehind}
use Rattle.isl_union.proofs.bounded.are_bounded.Given as goal

abbrev pub invariant-loop-system : goal.invariant-loop-system
invariant-loop-system l = All (IsBoundedBehind l.front) (take l.system-index l.systems) × IsCharged l.fn.meter l.meter
