use Rattle.std.proofs.Common.{◌≡◌, take, drop}
use Rattle.isl_tree.specs.Known.{binders_are_known, known_below}
use Rattle.isl_kinds.specs.Place.{names_at}
use Rattle.isl_kinds.proofs.known.binders_are_known.Given as goal

abbrev pub invariant-loop-at : goal.invariant-loop-at
invariant-loop-at l = binders_are_known (known_below (names_at l.place) (take l.at l.binders)) (drop l.at l.binders) ≡
    binders_are_known (names_at l.place) l.binders
