use Rattle.std.proofs.Common.{take}
use Rattle.std.specs.List.{All}
use Rattle.isl_nest.specs.Striding.{Asks}
use Rattle.isl_nest.proofs.equality.is_asked.Given as goal

abbrev pub invariant-loop-row : goal.invariant-loop-row
invariant-loop-row l = All (λ r. ¬ Asks l.column r) (take l.row-index l.rows)
