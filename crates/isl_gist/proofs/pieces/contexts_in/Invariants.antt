use Rattle.std.proofs.Common.{◌≡◌, map, take}
use Rattle.isl_space.specs.Space.{space_form_of}
use Rattle.isl_union.specs.Minus.{systems_in}
use Rattle.isl_gist.proofs.pieces.contexts_in.Given as goal

abbrev pub invariant-loop-piece : goal.invariant-loop-piece
invariant-loop-piece l = map (λ system. system.now) l.systems.items ≡ systems_in (space_form_of l.space) (take l.piece-index l.pieces)
