use Rattle.std.proofs.Common.{◌≡◌, ◌++◌, length}
use Rattle.std.specs.List.{range_with_len}
use Rattle.isl_union.specs.Moved.{places_in}
use Rattle.isl_union.proofs.aligned.column_places.Given as goal

abbrev pub invariant-loop-coordinate : goal.invariant-loop-coordinate
invariant-loop-coordinate l = l.places.items ≡ places_in l.all l.names ++ range_with_len (length l.all) l.coordinate
