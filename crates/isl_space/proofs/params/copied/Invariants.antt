use Rattle.std.proofs.Common.{◌≡◌, take}
use Rattle.isl_space.proofs.params.copied.Given as goal

-- the set has the names so far
abbrev pub invariant-loop-name : goal.invariant-loop-name
invariant-loop-name l = l.set.keys ≡ take l.name-index l.names
