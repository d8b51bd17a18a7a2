use Rattle.std.proofs.Common.{rules, ap, ◌∙◌}
use Rattle.std.proofs.lemmas.List.{take_all}
use Rattle.isl_row_text.specs.Ordered.{in_order}
use Rattle.isl_row_text.specs.RowOrder.{row_cmp, row_before}
use Rattle.isl_row_text.proofs.OrderedLaws.{in_order-from_sort_by}
use Rattle.isl_row_text.proofs.RowOrderLaws.{row_cmp_total}
use Rattle.isl_row_text.proofs.order.ordered_rows.Goals as goal

pub returns : goal.returns
returns c =
    in_order-from_sort_by (λ row. row.now) row_cmp row_cmp_total c.loop-row.ordered.items c.sort_by.new.self.items c.in_ok-sort_by.ensures.sorted c.in_ok-sort_by.ensures.stable (λ f a r g h. search rules)
    ∙ ap (in_order row_before) (c.loop-row.invariant ∙ take_all _ _ c.loop-row-test.false)
