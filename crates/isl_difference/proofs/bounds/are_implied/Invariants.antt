use Rattle.std.proofs.Common.{take}
use Rattle.std.specs.List.{All, Any}
use Rattle.isl_difference.specs.Told.{Says}
use Rattle.isl_difference.proofs.bounds.are_implied.Given as goal

abbrev pub invariant-loop-other : goal.invariant-loop-other
invariant-loop-other l = All (λ other. Any (λ row. Says row other) l.rows) (take l.other-index l.others)
