use Rattle.std.proofs.Common.{◌≡◌, ◌++◌, map, take}
use Rattle.isl_plain.proofs.tuples.push_leaf.Given as goal

abbrev pub invariant-loop-entry : goal.invariant-loop-entry
invariant-loop-entry l =
    map (λ entry. entry.now) l.entries.items ≡ map (λ entry. entry.now) l.fn.entries.items ++ take l.entry-index l.leaf
