use Rattle.std.proofs.Common.{◌≡◌, map, take}
use Rattle.isl_print.proofs.order.with_ordered_rows.Given as goal

abbrev pub invariant-loop-row : goal.invariant-loop-row
invariant-loop-row l = l.rows ≡ map (λ row. row.now) (take l.row-index l.row-items)
