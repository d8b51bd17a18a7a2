use Rattle.isl_meter.specs.Gauge.{IsCharged}
use Rattle.isl_remainder.specs.Over.{IsReduced}
use Rattle.isl_remainder.proofs.over.all_reduced.Given as goal

abbrev pub invariant-loop : goal.invariant-loop
invariant-loop l = record {
  reduced : IsReduced l.fn.meter l.kept l.fn.asked l.left;
  charged : IsCharged l.fn.meter l.meter;
}
