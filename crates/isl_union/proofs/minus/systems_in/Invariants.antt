use Rattle.std.proofs.Common.{◌≡◌, map, take}
use Rattle.isl_union.proofs.minus.systems_in.Given as goal

abbrev pub invariant-loop-piece : goal.invariant-loop-piece
invariant-loop-piece l = map (λ system. system.now) l.systems.items ≡ map (λ piece. piece.system) (take l.piece-index l.found)
