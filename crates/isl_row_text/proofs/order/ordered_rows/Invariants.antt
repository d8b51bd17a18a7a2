use Rattle.std.proofs.Common.{◌≡◌, map, take}
use Rattle.isl_row_text.proofs.order.ordered_rows.Given as goal

abbrev pub invariant-loop-row : goal.invariant-loop-row
invariant-loop-row l = map (λ row. row.now) l.ordered.items ≡ take l.row-index l.rows
