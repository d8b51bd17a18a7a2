use Rattle.std.proofs.Common.{take}
use Rattle.std.specs.List.{All}
use Rattle.isl_difference.specs.Told.{Excludes}
use Rattle.isl_difference.proofs.bounds.is_excluded.Given as goal

abbrev pub invariant-loop-row : goal.invariant-loop-row
invariant-loop-row l = All (λ row. ¬ Excludes row l.other) (take l.row-index l.rows)
