use Rattle.std.proofs.Common.{take}
use Rattle.isl_meter.specs.Gauge.{IsCharged}
use Rattle.isl_pip.specs.Levels.{AreTowersOf}
use Rattle.isl_pip.proofs.levels.towers_of.Given as goal

abbrev pub invariant-loop-system : goal.invariant-loop-system
invariant-loop-system l = AreTowersOf l.fn.meter l.front (take l.system-index l.systems) l.towers.items × IsCharged l.fn.meter l.meter
