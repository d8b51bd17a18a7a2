use Rattle.std.proofs.Common.{◌∙◌, ◌<◌, length, arith, rules, to_z-of_z}
use Rattle.std.proofs.lemmas.Grind.{common_steps}
use Rattle.isl_ast.proofs.AtomLaws.{ceiling_over, ceiling_past, ceiling_value, floor_over, floor_past, floor_value}
use Rattle.isl_ast.proofs.AtomLaws.{greatest_is, greatest_over, least_is, least_over}
use Rattle.isl_ast.proofs.SizeLaws.{ceiling_smaller, expr_smaller, floor_smaller, greatest_smaller, item_smaller, items_smaller}
use Rattle.isl_ast.proofs.SizeLaws.{least_smaller}
use Rattle.isl_ast.proofs.ValueLaws.{best_more, best_past, expr_answer, expr_items, expr_over, expr_total, item_over, total_atom}
use Rattle.isl_ast.proofs.ValueLaws.{total_more, total_product, total_sum}
use Rattle.isl_quast.specs.Value.{better}
use Rattle.isl_quast.proofs.number.+value.Goals as goal

pub total-atom_value-requires : goal.total-atom_value-requires
total-atom_value-requires t c =
    let low : c.loop-item.item-index < length c.args.items.now = omega arith in (
      search (rules, item_smaller c.args.items.now c.loop-item.item-index c.item-item.result low c.item-item.is),
      item_over c.args.meter.now c.loop-item.meter (length c.args.point.now) c.args.items.now c.loop-item.item-index c.item-item.result
          c.requires low c.item-item.is c.loop-item.invariant.1,
    )

pub total-loop-item-preserved : goal.total-loop-item-preserved
total-loop-item-preserved t c =
    let low : c.loop-item.item-index < length c.args.items.now = omega arith in (
      total_more c.args.meter.now c.args.point.now c.args.items.now c.loop-item.item-index
          c.item-item.result c.loop-item.sum c.in_ok-number.number c.new.result c.in_ok-product.product c.in_ok-next.next low c.item-item.is
          c.loop-item.invariant.0 c.in_ok-number.ensures.0 (grind (arith, common_steps, to_z-of_z)) c.in_ok-product.ensures.0
          c.in_ok-next.ensures.0,
      c.in_ok-next.ensures.2 ∙ c.in_ok-product.ensures.2 ∙ c.in_ok-number.ensures.1 ∙ c.loop-item.invariant.1,
    )

pub total-returns-in_err-number : goal.total-returns-in_err-number
total-returns-in_err-number t c =
    let low : c.loop-item.item-index < length c.args.items.now = omega arith in
    let found = total_atom c.args.meter.now c.loop-item.meter c.atom_value.new.meter c.args.point.now c.args.items.now
    c.loop-item.item-index
    c.item-item.result c.loop-item.sum low c.item-item.is c.loop-item.invariant.0 c.loop-item.invariant.1 c.in_err-number.ensures in
    search (rules, found)

pub total-returns-in_err-product : goal.total-returns-in_err-product
total-returns-in_err-product t c =
    let low : c.loop-item.item-index < length c.args.items.now = omega arith in
    let found = total_product c.args.meter.now c.atom_value.new.meter c.mul.new.meter c.args.point.now c.args.items.now
    c.loop-item.item-index
    c.item-item.result c.loop-item.sum c.in_ok-number.number c.new.result low c.item-item.is c.loop-item.invariant.0
    (c.in_ok-number.ensures.1 ∙ c.loop-item.invariant.1) c.in_ok-number.ensures.0 (grind (arith, common_steps, to_z-of_z))
    c.in_err-product.ensures in
    search (rules, found)

pub total-returns-in_err-next : goal.total-returns-in_err-next
total-returns-in_err-next t c =
    let low : c.loop-item.item-index < length c.args.items.now = omega arith in
    let found = total_sum c.args.meter.now c.mul.new.meter c.add.new.meter c.args.point.now c.args.items.now c.loop-item.item-index
    c.item-item.result c.loop-item.sum c.in_ok-number.number c.new.result c.in_ok-product.product low c.item-item.is c.loop-item.invariant.0
    (c.in_ok-product.ensures.2 ∙ c.in_ok-number.ensures.1 ∙ c.loop-item.invariant.1) c.in_ok-number.ensures.0
    (grind (arith, common_steps, to_z-of_z)) c.in_ok-product.ensures.0 c.in_err-next.ensures in
    search (rules, found)

pub best_of-value-requires : goal.best_of-value-requires
best_of-value-requires t c =
    let low : c.loop-part.part-index < length c.args.parts.now = omega arith in (
      search (rules, expr_smaller c.args.parts.now c.loop-part.part-index c.part-item.result low c.part-item.is),
      expr_over c.args.meter.now c.loop-part.meter (length c.args.point.now) c.args.parts.now c.loop-part.part-index c.part-item.result
          c.requires low c.part-item.is c.loop-part.invariant.1,
    )

pub best_of-loop-part-preserved : goal.best_of-loop-part-preserved
best_of-loop-part-preserved t c =
    let low : c.loop-part.part-index < length c.args.parts.now = omega arith in (
      best_more c.args.meter.now c.args.point.now (better c.args.which) c.args.parts.now c.loop-part.part-index c.part-item.result
          c.loop-part.best c.in_ok-number.number c.with.result low c.part-item.is c.loop-part.invariant.0 c.in_ok-number.ensures.value.0
          c.with.ensures,
      c.in_ok-number.ensures.value.1 ∙ c.loop-part.invariant.1,
    )

pub best_of-returns-in_err-number : goal.best_of-returns-in_err-number
best_of-returns-in_err-number t c =
    let low : c.loop-part.part-index < length c.args.parts.now = omega arith in
    let found = best_past c.args.meter.now c.loop-part.meter c.value.new.meter c.args.point.now (better c.args.which) c.args.parts.now
    c.loop-part.part-index c.part-item.result c.loop-part.best low c.part-item.is c.loop-part.invariant.0 c.loop-part.invariant.1
    c.in_err-number.ensures.value in
    search (rules, found)

pub value-total-requires : goal.value-total-requires
value-total-requires t c = (
  search (rules, items_smaller c.args.expr.now c.as_slice.result.now c.as_slice.ensures),
  expr_items c.args.meter.now (length c.args.point.now) c.args.expr.now c.as_slice.result.now c.as_slice.ensures c.requires,
)

pub value-returns-in_err-sum-clause-value : goal.value-returns-in_err-sum-clause-value
value-returns-in_err-sum-clause-value t c =
    let found = expr_total c.args.meter.now c.total.new.meter c.args.point.now c.args.expr.now c.as_slice.result.now c.as_slice.ensures
    c.in_err-sum.ensures in
    search (rules, found)

pub value-returns-clause-value : goal.value-returns-clause-value
value-returns-clause-value t c =
    expr_answer c.args.meter.now c.total.new.meter c.add.new.meter c.args.point.now c.args.expr.now c.as_slice.result.now
    c.in_ok-sum.sum c.new.result c.add.result c.as_slice.ensures c.in_ok-sum.ensures.0 (grind (arith, common_steps, to_z-of_z))
    c.in_ok-sum.ensures.1 c.add.ensures

pub atom_value-value-requires : goal.atom_value-value-requires
atom_value-value-requires t c = (
  search (rules, floor_smaller c.args.atom.now c.in-Floor.dividend c.get.result.now c.in-Floor.k c.in-Floor.is c.get.ensures),
  floor_over c.args.meter.now (length c.args.point.now) c.args.atom.now c.in-Floor.dividend c.get.result.now c.in-Floor.k c.in-Floor.is
      c.get.ensures c.requires,
)

pub atom_value-returns-in_err-number-in-Floor : goal.atom_value-returns-in_err-number-in-Floor
atom_value-returns-in_err-number-in-Floor t c =
    let found = floor_past c.args.meter.now c.value.new.meter c.args.point.now c.args.atom.now c.in-Floor.dividend c.get.result.now
    c.in-Floor.k
    c.in-Floor.is c.get.ensures c.in_err-number-in-Floor.ensures.value in
    search (rules, found)

pub atom_value-returns-in_ok-number-in-Floor : goal.atom_value-returns-in_ok-number-in-Floor
atom_value-returns-in_ok-number-in-Floor t c = (
  floor_value c.args.atom.now c.in-Floor.dividend c.get.result.now c.in-Floor.k _ c.args.point.now c.in_ok-number-in-Floor.number
      c.floor_div.result c.in-Floor.is c.get.ensures c.in_ok-number-in-Floor.ensures.value.0 c.floor_div.ensures.value
      (grind (arith, common_steps, to_z-of_z)),
  c.in_ok-number-in-Floor.ensures.value.1,
)

pub atom_value-value-requires-in-Ceil : goal.atom_value-value-requires-in-Ceil
atom_value-value-requires-in-Ceil t c = (
  search (
    rules,
    ceiling_smaller c.args.atom.now c.in-Ceil.dividend c.get-in-Ceil.result.now c.in-Ceil.k c.in-Ceil.is
        c.get-in-Ceil.ensures,
  ),
  ceiling_over c.args.meter.now (length c.args.point.now) c.args.atom.now c.in-Ceil.dividend c.get-in-Ceil.result.now c.in-Ceil.k
      c.in-Ceil.is c.get-in-Ceil.ensures c.requires,
)

pub atom_value-returns-in_err-number-in-Ceil : goal.atom_value-returns-in_err-number-in-Ceil
atom_value-returns-in_err-number-in-Ceil t c =
    let found = ceiling_past c.args.meter.now c.value-in-Ceil.new.meter c.args.point.now c.args.atom.now c.in-Ceil.dividend
    c.get-in-Ceil.result.now
    c.in-Ceil.k c.in-Ceil.is c.get-in-Ceil.ensures c.in_err-number-in-Ceil.ensures.value in
    search (rules, found)

pub atom_value-returns-in_ok-number-in-Ceil : goal.atom_value-returns-in_ok-number-in-Ceil
atom_value-returns-in_ok-number-in-Ceil t c = (
  ceiling_value c.args.atom.now c.in-Ceil.dividend c.get-in-Ceil.result.now c.in-Ceil.k _ c.args.point.now
      c.in_ok-number-in-Ceil.number c.ceiling.result c.in-Ceil.is c.get-in-Ceil.ensures c.in_ok-number-in-Ceil.ensures.value.0
      c.ceiling.ensures (grind (arith, common_steps, to_z-of_z)),
  c.in_ok-number-in-Ceil.ensures.value.1,
)

pub atom_value-best_of-requires : goal.atom_value-best_of-requires
atom_value-best_of-requires t c = (
  search (rules, least_smaller c.args.atom.now c.in-Min.parts c.as_slice.result.now c.in-Min.is c.as_slice.ensures),
  least_over c.args.meter.now (length c.args.point.now) c.args.atom.now c.in-Min.parts c.as_slice.result.now c.in-Min.is c.as_slice.ensures
      c.requires,
)

pub atom_value-best_of-requires-in-Max : goal.atom_value-best_of-requires-in-Max
atom_value-best_of-requires-in-Max t c = (
  search (rules, greatest_smaller c.args.atom.now c.in-Max.parts c.as_slice-in-Max.result.now c.in-Max.is c.as_slice-in-Max.ensures),
  greatest_over c.args.meter.now (length c.args.point.now) c.args.atom.now c.in-Max.parts c.as_slice-in-Max.result.now c.in-Max.is
      c.as_slice-in-Max.ensures c.requires,
)

pub atom_value-returns-in-Min : goal.atom_value-returns-in-Min
atom_value-returns-in-Min t c =
    least_is c.args.meter.now c.best_of.new.meter c.args.point.now c.args.atom.now c.in-Min.parts c.as_slice.result.now c.best_of.result
    c.in-Min.is c.as_slice.ensures c.best_of.ensures

pub atom_value-returns-in-Max : goal.atom_value-returns-in-Max
atom_value-returns-in-Max t c =
    greatest_is c.args.meter.now c.best_of-in-Max.new.meter c.args.point.now c.args.atom.now c.in-Max.parts c.as_slice-in-Max.result.now
    c.best_of-in-Max.result c.in-Max.is c.as_slice-in-Max.ensures c.best_of-in-Max.ensures
