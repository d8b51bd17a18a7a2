use Rattle.std.proofs.Common.{◌∷◌, [], take}
use Rattle.isl_meter.specs.Gauge.{IsCharged}
use Rattle.isl_loops.specs.Together.{AllComeBefore}
use Rattle.isl_loops.proofs.groups.all_come_before.Given as goal

abbrev pub invariant-loop-other : goal.invariant-loop-other
invariant-loop-other l = AllComeBefore l.place (take l.other-index l.others) (l.item ∷ []) × IsCharged l.fn.meter l.meter
