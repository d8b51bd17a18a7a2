use Rattle.std.proofs.Common.{length, take}
use Rattle.isl_meter.specs.Gauge.{IsCharged}
use Rattle.isl_elim.specs.Elimination.{HoldsAtAny}
use Rattle.isl_coalesce.specs.Found.{IsTrueThroughout}
use Rattle.isl_coalesce.proofs.parts.true_in_region.Given as goal

abbrev pub invariant-loop-known : goal.invariant-loop-known
invariant-loop-known l = record {
  true : IsTrueThroughout (λ point. HoldsAtAny (take l.known-index l.region.systems.items) (take (length l.region.params) point)) l.system
      l.row;
  charged : IsCharged l.fn.meter l.meter;
}
