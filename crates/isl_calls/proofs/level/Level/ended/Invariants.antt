use Rattle.std.proofs.Common.{take}
use Rattle.isl_calls.specs.Level.{AreEndedOf}
use Rattle.isl_calls.proofs.level.Level.ended.Given as goal

abbrev pub invariant-loop-system : goal.invariant-loop-system
invariant-loop-system l = AreEndedOf (take l.system-index l.systems) l.kept
