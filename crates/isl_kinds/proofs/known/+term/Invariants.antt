use Rattle.std.proofs.Common.{◌≡◌, drop}
use Rattle.isl_tree.specs.Known.{term_is_known}
use Rattle.isl_kinds.specs.Place.{names_at}
use Rattle.isl_kinds.proofs.known.+term.Given as goal

abbrev pub invariant-term_is_known-loop-part : goal.invariant-term_is_known-loop-part
invariant-term_is_known-loop-part l =
    term_is_known (names_at l.place) (drop l.part-index l.term) ≡ term_is_known (names_at l.place) l.term
