use Rattle.std.proofs.Common.{◌≤◌, take}
use Rattle.isl_assumed.proofs.PlacesLaws.{AreSoFar}
use Rattle.isl_assumed.proofs.onto.places_behind.Given as goal

abbrev pub invariant-loop-i : goal.invariant-loop-i
invariant-loop-i l = record {
  places : AreSoFar l.params (take l.i l.names) l.items.items l.new;
  few : l.new ≤ l.i;
}
