use Rattle.std.proofs.Common.{◌≡◌, map}
use Rattle.isl_space.specs.Space.{space_form_of}
use Rattle.isl_union.specs.Minus.{piece_in}
use Rattle.isl_union.proofs.pieces.pieces_in.Given as goal

abbrev pub invariant-loop-system : goal.invariant-loop-system
invariant-loop-system l = l.pieces.items ≡ map (piece_in (space_form_of l.space)) l.yielded
