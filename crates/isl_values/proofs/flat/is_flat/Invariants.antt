use Rattle.std.proofs.Common.{All, take}
use Rattle.isl_values.proofs.FlatLaws.{DefinesNone}
use Rattle.isl_values.proofs.flat.is_flat.Given as goal

abbrev pub invariant-loop-piece : goal.invariant-loop-piece
invariant-loop-piece l = All DefinesNone (take l.piece-index l.piece-items)
