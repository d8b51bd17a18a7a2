use Rattle.std.proofs.Common.{◌≡◌, ◌++◌}
use Rattle.isl_space.proofs.params.Params.new.Given as goal

-- the names in the set and those that are still to come are the names that were given
abbrev pub invariant-loop-name : goal.invariant-loop-name
invariant-loop-name l = l.set.keys ++ l.name-iterator.rest.items ≡ l.fn.names.items
