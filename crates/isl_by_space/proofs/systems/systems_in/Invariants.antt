use Rattle.std.proofs.Common.{◌≡◌, take}
use Rattle.isl_space.specs.Space.{space_form_of}
use Rattle.isl_union.specs.Minus.{systems_in}
use Rattle.isl_by_space.proofs.systems.systems_in.Given as goal

abbrev pub invariant-loop-piece : goal.invariant-loop-piece
invariant-loop-piece l = l.systems.items ≡ systems_in (space_form_of l.space) (take l.piece-index l.pieces)
