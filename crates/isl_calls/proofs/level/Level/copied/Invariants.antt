use Rattle.std.proofs.Common.{◌≡◌, take}
use Rattle.isl_calls.proofs.level.Level.copied.Given as goal

abbrev pub invariant-loop-system : goal.invariant-loop-system
invariant-loop-system l = l.level ≡ take l.system-index l.systems
