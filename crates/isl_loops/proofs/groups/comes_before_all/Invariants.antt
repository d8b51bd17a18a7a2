use Rattle.std.proofs.Common.{take}
use Rattle.std.specs.List.{All}
use Rattle.isl_meter.specs.Gauge.{IsCharged}
use Rattle.isl_loops.specs.Together.{ComesBefore}
use Rattle.isl_loops.proofs.groups.comes_before_all.Given as goal

abbrev pub invariant-loop-other : goal.invariant-loop-other
invariant-loop-other l = All (ComesBefore l.place l.item) (take l.other-index l.others) × IsCharged l.fn.meter l.meter
