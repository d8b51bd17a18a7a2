use Rattle.std.proofs.Common.{◌≡◌, take}
use Rattle.isl_extremes.proofs.systems.copies.Given as goal

abbrev pub invariant-loop-system : goal.invariant-loop-system
invariant-loop-system l = l.copied.items ≡ take l.system-index l.systems
