use Rattle.std.proofs.Common.{take}
use Rattle.std.specs.List.{AllZip}
use Rattle.isl_precedence.specs.Told.{IsTold}
use Rattle.isl_precedence.proofs.told.all_told.Given as goal

abbrev pub invariant-loop-piece : goal.invariant-loop-piece
invariant-loop-piece l = AllZip (IsTold l.meter) (take l.piece-index l.pieces) l.made.items
