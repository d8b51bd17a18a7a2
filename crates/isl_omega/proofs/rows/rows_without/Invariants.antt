use Rattle.std.proofs.Common.{◌≡◌, take, map}
use Rattle.isl_omega.specs.Column.{dropped}
use Rattle.isl_omega.proofs.rows.rows_without.Given as goal

abbrev pub invariant-loop-row : goal.invariant-loop-row
invariant-loop-row l = l.short ≡ map (λ r. dropped r l.col) (take l.row-index l.rows)
