use Rattle.std.proofs.Common.{take}
use Rattle.std.specs.List.{All}
use Rattle.isl_elim.specs.Solved.{IsUnitEquality}
use Rattle.isl_quotient.proofs.solved.unit_at.Given as goal

abbrev pub invariant-loop-i : goal.invariant-loop-i
invariant-loop-i l = All (λ r. ¬ IsUnitEquality l.col r) (take l.i l.rows)
