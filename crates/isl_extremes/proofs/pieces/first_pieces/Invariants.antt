use Rattle.std.proofs.Common.{map, take}
use Rattle.isl_space.specs.Space.{space_form_of}
use Rattle.isl_extremes.specs.Pieces.{AreFirstSoFar}
use Rattle.isl_extremes.proofs.pieces.first_pieces.Given as goal

abbrev pub invariant-loop-space : goal.invariant-loop-space
invariant-loop-space l =
    AreFirstSoFar l.fn.meter l.meter l.params l.direction (map space_form_of (take l.space-index l.space-items)) l.pieces l.made.items
