use Rattle.std.proofs.Common.{take}
use Rattle.std.specs.List.{All}
use Rattle.isl_elim.specs.Solved.{IsUnitEquality}
use Rattle.isl_quotient.proofs.solved.given_column.Given as goal

abbrev pub invariant-loop-col : goal.invariant-loop-col
invariant-loop-col l = All (λ col. All (λ r. ¬ IsUnitEquality col r) l.rows) (take l.col-index l.cols)
