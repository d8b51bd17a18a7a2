use Rattle.std.proofs.Common.{◌≡◌, ◌<◌, arith, length}
use Rattle.std.proofs.lemmas.Grind.{common_steps}
use Rattle.isl_print.proofs.PieceOrderLaws.{pushed_more}
use Rattle.isl_print.proofs.order.with_ordered_rows.Goals as goal

pub loop-row-preserved : goal.loop-row-preserved
loop-row-preserved c =
    let items = c.as_slice-row-items.result.now in
    let i = c.loop-row.row-index in
    let low : i < length items = grind (arith, common_steps) in
    pushed_more (λ row. row.now) items c.row-item.result i c.loop-row.rows c.push.new.self c.in_ok-copy.field-0 low c.row-item.is
    c.in_ok-copy.ensures c.in_ok-push.ensures.ok c.loop-row.invariant
