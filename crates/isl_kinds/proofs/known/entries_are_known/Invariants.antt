use Rattle.std.proofs.Common.{◌≡◌, take, drop}
use Rattle.isl_tree.specs.Known.{entries_are_known, known_behind}
use Rattle.isl_kinds.specs.Place.{names_at}
use Rattle.isl_kinds.proofs.known.entries_are_known.Given as goal

abbrev pub invariant-loop-at : goal.invariant-loop-at
invariant-loop-at l = entries_are_known (known_behind (names_at l.place) (take l.at l.entries)) (drop l.at l.entries) ≡
    entries_are_known (names_at l.place) l.entries
