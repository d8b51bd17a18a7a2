use Rattle.std.proofs.Common.{◌≡◌, map, take}
use Rattle.isl_difference.proofs.difference.references.Given as goal

abbrev pub invariant-loop-system : goal.invariant-loop-system
invariant-loop-system l = map (λ system. system.now) l.found.items ≡ take l.system-index l.systems
