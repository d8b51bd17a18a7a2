-- The order of rows is total.
use Rattle.std.specs.Cmp.{IsTotalOrder}
use Rattle.std.proofs.lemmas.Cmp.{on_total, then_total, back_total, lists_total, nat_cmp_total, int_cmp_total}
use Rattle.isl_piece.specs.declared.row.Row.{Row}
use Rattle.isl_row_text.specs.RowOrder.{rank_of, numbers_cmp, row_cmp}

numbers_cmp_total : IsTotalOrder numbers_cmp
numbers_cmp_total =
    then_total (on_total (λ (r : Row). r.coefs) (lists_total int_cmp_total)) (on_total (λ (r : Row). r.constant) int_cmp_total)

pub row_cmp_total : IsTotalOrder row_cmp
row_cmp_total =
    then_total (then_total (on_total (λ (r : Row). rank_of r.kind) nat_cmp_total) (on_total (λ (r : Row). r.k) int_cmp_total)) (back_total numbers_cmp_total)
