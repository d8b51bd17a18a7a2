use Rattle.std.proofs.Common.{◌≡◌, ◌++◌, map}
use Rattle.isl_elim.specs.Elimination.{system_of}
use Rattle.isl_elim.proofs.projection.systems_of.Given as goal

abbrev pub invariant-loop-rows : goal.invariant-loop-rows
invariant-loop-rows l = l.systems.items ++ map (system_of l.left.columns l.left.definitions) l.rows-iterator.rest.items ≡ map (system_of l.left.columns l.left.definitions) l.fn.lists.items
