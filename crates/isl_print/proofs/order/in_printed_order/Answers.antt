use Rattle.std.proofs.Common.{◌≡◌, ◌∙◌, ◌<◌, ◌≤◌, ap, arith, length, map, sym}
use Rattle.std.proofs.lemmas.Grind.{common_steps}
use Rattle.std.proofs.lemmas.List.{take_all}
use Rattle.std.proofs.lemmas.Simd.{map-map}
use Rattle.isl_print.specs.OrderedValue.{ordered_view}
use Rattle.isl_print.proofs.PieceOrderLaws.{pushed_more}
use Rattle.isl_print.proofs.order.in_printed_order.Goals as goal

pub loop-titled-preserved : goal.loop-titled-preserved
loop-titled-preserved c =
    let items = c.as_slice-titled-items.result.now in
    let i = c.loop-titled.titled-index in
    let low : i < length items = grind (arith, common_steps) in
    pushed_more (λ titled. ordered_view titled.piece.now) items c.titled-item.result i c.loop-titled.made.items c.push.new.self.items
    c.in_ok-with_ordered_rows.field-0 low c.titled-item.is c.in_ok-with_ordered_rows.ensures c.in_ok-push.ensures.items
    c.loop-titled.invariant

pub returns : goal.returns
returns c =
    let items = c.as_slice-titled-items.result.now in
    let over : length items ≤ c.loop-titled.titled-index = grind (arith, common_steps) in
    c.loop-titled.invariant
    ∙ ap (λ l. map (λ titled. ordered_view titled.piece.now) l)
    (take_all c.loop-titled.titled-index items over ∙ c.as_slice-titled-items.ensures.value)
    ∙ sym (map-map ordered_view (λ titled. titled.piece.now) c.in_ok-ordered.ordered.items)
    ∙ ap (map ordered_view) c.in_ok-ordered.ensures.views
