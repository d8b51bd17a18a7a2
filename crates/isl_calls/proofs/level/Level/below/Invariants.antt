use Rattle.std.proofs.Common.{take}
use Rattle.isl_meter.specs.Gauge.{IsCharged}
use Rattle.isl_calls.specs.Level.{AreShadows}
use Rattle.isl_calls.proofs.level.Level.below.Given as goal

abbrev pub invariant-loop-system : goal.invariant-loop-system
invariant-loop-system l = AreShadows l.fn.meter (take l.system-index l.self) l.width l.lower × IsCharged l.fn.meter l.meter
