use Rattle.std.proofs.Common.{map, take}
use Rattle.isl_meter.specs.Gauge.{IsCharged}
use Rattle.isl_gist.specs.Thinned.{IsAmong, IsIdleAt}
use Rattle.isl_gist.proofs.idle.is_idle.Given as goal

abbrev pub invariant-loop-context : goal.invariant-loop-context
invariant-loop-context l = record {
  idle : IsIdleAt (IsAmong l.others.columns (take l.context-index (map (λ context. context.now) l.contexts))) l.others.rows l.row;
  charged : IsCharged l.fn.meter l.meter;
}
