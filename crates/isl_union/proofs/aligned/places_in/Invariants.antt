use Rattle.std.proofs.Common.{◌≡◌, take}
use Rattle.isl_union.specs.Moved.{places_in}
use Rattle.isl_union.proofs.aligned.places_in.Given as goal

abbrev pub invariant-loop-i : goal.invariant-loop-i
invariant-loop-i l = l.places.items ≡ places_in l.all (take l.i l.names)
