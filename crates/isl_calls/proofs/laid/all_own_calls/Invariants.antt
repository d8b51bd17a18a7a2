use Rattle.std.proofs.Common.{take}
use Rattle.std.specs.List.{AllZip}
use Rattle.isl_calls.specs.Laid.{IsOwnLaid}
use Rattle.isl_calls.proofs.laid.all_own_calls.Given as goal

abbrev pub invariant-loop-piece : goal.invariant-loop-piece
invariant-loop-piece l = AllZip IsOwnLaid (take l.piece-index l.pieces) l.calls.items
