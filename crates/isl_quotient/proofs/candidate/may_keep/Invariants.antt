use Rattle.std.proofs.Common.{take}
use Rattle.std.specs.List.{All}
use Rattle.isl_quotient.specs.Quotient.{PinsNone}
use Rattle.isl_quotient.proofs.candidate.may_keep.Given as goal

abbrev pub invariant-loop-row : goal.invariant-loop-row
invariant-loop-row l = All (λ row. All (λ col. PinsNone l.rows col row) l.cols) (take l.row-index l.rows)
