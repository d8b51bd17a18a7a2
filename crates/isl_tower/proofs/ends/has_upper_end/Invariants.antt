use Rattle.std.proofs.Common.{take}
use Rattle.std.specs.List.{All}
use Rattle.isl_piece.specs.declared.row.Row.{Row}
use Rattle.isl_piece.specs.Row.{coef_at}
use Rattle.isl_tower.specs.Ends.{EndsAbove}
use Rattle.isl_tower.proofs.ends.has_upper_end.Given as goal

abbrev pub invariant-loop-row : goal.invariant-loop-row
invariant-loop-row l = All (λ (r : Row). ¬ EndsAbove r.kind (coef_at r l.col)) (take l.row-index l.rows)
