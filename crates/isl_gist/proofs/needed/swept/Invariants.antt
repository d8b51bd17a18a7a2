use Rattle.std.proofs.Common.{map}
use Rattle.isl_meter.specs.Gauge.{IsCharged}
use Rattle.isl_gist.specs.Thinned.{IsAmong}
use Rattle.isl_gist.proofs.SweepLaws.{IsSwept}
use Rattle.isl_gist.proofs.needed.swept.Given as goal

abbrev pub invariant-loop-at : goal.invariant-loop-at
invariant-loop-at l = record {
  swept : IsSwept l.pass (IsAmong l.system.columns (map (λ context. context.now) l.contexts)) l.system.rows l.kept l.at;
  charged : IsCharged l.fn.meter l.meter;
}
