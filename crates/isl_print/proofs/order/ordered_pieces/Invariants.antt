use Rattle.std.proofs.Common.{◌≡◌, map, take}
use Rattle.isl_print.proofs.order.ordered_pieces.Given as goal

abbrev pub invariant-loop-piece : goal.invariant-loop-piece
invariant-loop-piece l = map (λ titled. titled.piece.now) l.ordered.items ≡ take l.piece-index l.pieces
