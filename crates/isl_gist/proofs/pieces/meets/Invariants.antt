use Rattle.std.proofs.Common.{map, take}
use Rattle.isl_meter.specs.Gauge.{IsCharged}
use Rattle.isl_gist.specs.Meeting.{AreApartIn}
use Rattle.isl_gist.specs.Thinned.{IsAmong}
use Rattle.isl_gist.proofs.pieces.meets.Given as goal

abbrev pub invariant-loop-context : goal.invariant-loop-context
invariant-loop-context l = record {
  apart : AreApartIn (IsAmong l.system.columns (take l.context-index (map (λ context. context.now) l.contexts))) l.system.rows;
  charged : IsCharged l.fn.meter l.meter;
}
