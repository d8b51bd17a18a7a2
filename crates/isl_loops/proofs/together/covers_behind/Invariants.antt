use Rattle.std.proofs.Common.{◌≡◌, ◌++◌, take}
use Rattle.isl_loops.specs.Shared.{covers_behind}
use Rattle.isl_loops.proofs.together.covers_behind.Given as goal

abbrev pub invariant-loop-rows : goal.invariant-loop-rows
invariant-loop-rows l =
    l.systems.items ≡ covers_behind l.extent.params l.columns (take l.item-index l.items) ++ take l.rows-index l.rows-items

abbrev pub invariant-loop-item : goal.invariant-loop-item
invariant-loop-item l = l.systems.items ≡ covers_behind l.extent.params l.columns (take l.item-index l.items)
