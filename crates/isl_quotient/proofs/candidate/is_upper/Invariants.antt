use Rattle.std.proofs.Common.{take}
use Rattle.std.specs.List.{All}
use Rattle.isl_quotient.specs.Quotient.{PinsNone}
use Rattle.isl_quotient.proofs.candidate.is_upper.Given as goal

abbrev pub invariant-loop-col : goal.invariant-loop-col
invariant-loop-col l = All (λ col. PinsNone l.rows col l.row) (take l.col-index l.cols)
