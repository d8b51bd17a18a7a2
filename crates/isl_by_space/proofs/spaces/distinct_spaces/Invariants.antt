use Rattle.std.proofs.Common.{map, take}
use Rattle.isl_space.specs.Space.{space_form_of}
use Rattle.isl_by_space.specs.Spaces.{AreSpacesOf}
use Rattle.isl_by_space.specs.Titles.{HavePlaces}
use Rattle.isl_by_space.proofs.spaces.distinct_spaces.Given as goal

abbrev pub invariant-loop-piece : goal.invariant-loop-piece
invariant-loop-piece l =
    AreSpacesOf (take l.piece-index l.pieces) (map space_form_of l.spaces.items) × HavePlaces l.spaces.items l.places.entries
