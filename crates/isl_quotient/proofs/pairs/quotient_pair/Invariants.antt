use Rattle.std.proofs.Common.{take}
use Rattle.std.specs.List.{All}
use Rattle.isl_quotient.specs.Pair.{PinNone}
use Rattle.isl_quotient.proofs.pairs.quotient_pair.Given as goal

abbrev pub invariant-loop-col : goal.invariant-loop-col
invariant-loop-col l = All (PinNone l.rows l.cols) (take l.col-index l.cols)
