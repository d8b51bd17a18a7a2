use Rattle.std.proofs.Common.{take}
use Rattle.std.specs.List.{All, Any}
use Rattle.isl_difference.specs.Told.{Excludes}
use Rattle.isl_difference.proofs.bounds.are_apart.Given as goal

abbrev pub invariant-loop-other : goal.invariant-loop-other
invariant-loop-other l = All (λ other. ¬ Any (λ row. Excludes row other) l.rows) (take l.other-index l.others)
