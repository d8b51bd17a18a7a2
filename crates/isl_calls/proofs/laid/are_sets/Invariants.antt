use Rattle.std.proofs.Common.{take}
use Rattle.std.specs.List.{All}
use Rattle.isl_calls.specs.Calls.{IsSetForm}
use Rattle.isl_calls.proofs.laid.are_sets.Given as goal

abbrev pub invariant-loop-piece : goal.invariant-loop-piece
invariant-loop-piece l = All (λ piece. IsSetForm piece.space) (take l.piece-index l.pieces)
