use Rattle.std.proofs.Common.{◌≡◌, ◌<◌, ◌≤◌, true, arith, length, of_z, to_z, to_z-of_z}
use Rattle.std.specs.Int.{w128}
use Rattle.std.proofs.lemmas.Grind.{common_steps}
use Rattle.isl_loop.specs.declared.tree.Expr.{Expr, out-Expr}
use Rattle.isl_loop.specs.Formed.{IsAtomOver, IsExprOver}
use Rattle.isl_loop.specs.Lists.{IsItemOver}
use Rattle.isl_meter.specs.Gauge.{IsWithin}
use Rattle.isl_ast.proofs.FormedLaws.{all_found, one_all, ceiling_passed, expr_failed, expr_passed, floor_passed, greatest_told, least_told}
use Rattle.isl_ast.proofs.formed.+form.Goals as goal

pub is_expr_over-returns-then-is_within : goal.is_expr_over-returns-then-is_within
is_expr_over-returns-then-is_within t c =
    expr_passed c.args.meter.now c.args.columns c.args.expr.now c.as_slice.result.now (to_z w128 (of_z w128 (out-Expr c.args.expr.now).constant)) c.is_within.result c.are_items_over.result
    c.as_slice.ensures (grind (arith, common_steps, to_z-of_z)) c.if-is_within.true c.is_within.ensures c.are_items_over.ensures

pub is_expr_over-returns-else-is_within : goal.is_expr_over-returns-else-is_within
is_expr_over-returns-else-is_within t c =
    expr_failed c.args.meter.now c.args.columns c.args.expr.now (to_z w128 (of_z w128 (out-Expr c.args.expr.now).constant)) c.is_within.result (grind (arith, common_steps, to_z-of_z))
    c.if-is_within.false c.is_within.ensures

pub is_atom_over-returns-then-is_divisor : goal.is_atom_over-returns-then-is_divisor
is_atom_over-returns-then-is_divisor t c =
    floor_passed c.args.meter.now c.args.columns c.args.atom.now c.in-Floor.dividend c.get.result.now c.in-Floor.k _
    c.is_divisor.result c.is_expr_over.result c.in-Floor.is c.get.ensures (grind (arith, common_steps, to_z-of_z)) c.if-is_divisor.true
    c.is_divisor.ensures c.is_expr_over.ensures

pub is_atom_over-returns-then-is_divisor-2 : goal.is_atom_over-returns-then-is_divisor-2
is_atom_over-returns-then-is_divisor-2 t c =
    ceiling_passed c.args.meter.now c.args.columns c.args.atom.now c.in-Ceil.dividend c.get-then-is_divisor-2.result.now c.in-Ceil.k _
    c.is_divisor-in-Ceil.result c.is_expr_over-then-is_divisor-2.result c.in-Ceil.is c.get-then-is_divisor-2.ensures
    (grind (arith, common_steps, to_z-of_z)) c.if-is_divisor-2.true c.is_divisor-in-Ceil.ensures c.is_expr_over-then-is_divisor-2.ensures

pub is_atom_over-returns-in-Min : goal.is_atom_over-returns-in-Min
is_atom_over-returns-in-Min t c =
    least_told c.args.meter.now c.args.columns c.args.atom.now c.in-Min.parts c.as_slice.result.now c.are_some_over.result c.in-Min.is
    c.as_slice.ensures c.are_some_over.ensures

pub is_atom_over-returns-in-Max : goal.is_atom_over-returns-in-Max
is_atom_over-returns-in-Max t c =
    greatest_told c.args.meter.now c.args.columns c.args.atom.now c.in-Max.parts c.as_slice-in-Max.result.now
    c.are_some_over-in-Max.result c.in-Max.is c.as_slice-in-Max.ensures c.are_some_over-in-Max.ensures

pub are_items_over-loop-item-preserved : goal.are_items_over-loop-item-preserved
are_items_over-loop-item-preserved t c =
    let i = c.loop-item.item-index in
    let x = c.item-item.result in
    let low : i < length c.args.items.now = omega arith in
    let first : c.is_within.result ≡ true = grind (arith, common_steps) in
    let second : c.is_atom_over.result ≡ true = grind (arith, common_steps) in
    let within : IsWithin c.args.meter.now x.coef = grind (arith, common_steps, to_z-of_z) in
    let atom : IsAtomOver c.args.meter.now c.args.columns x.atom = c.is_atom_over.ensures.0 second in
    one_all (IsItemOver c.args.meter.now c.args.columns) c.args.items.now i x low c.item-item.is (record { coef = within; atom = atom })
    c.loop-item.invariant

pub are_items_over-returns : goal.are_items_over-returns
are_items_over-returns t c =
    let end : length c.args.items.now ≤ c.loop-item.item-index = omega arith in
    all_found (IsItemOver c.args.meter.now c.args.columns) c.args.items.now c.loop-item.item-index end c.loop-item.invariant

pub are_some_over-loop-part-preserved : goal.are_some_over-loop-part-preserved
are_some_over-loop-part-preserved t c =
    let i = c.loop-part.part-index in
    let x = c.part-item.result in
    let low : i < length c.args.parts.now = omega arith in
    let passed : c.is_expr_over.result ≡ true = grind (arith, common_steps) in
    let P : Expr → Type 0 = IsExprOver c.args.meter.now c.args.columns in
    one_all P c.args.parts.now i x low c.part-item.is (c.is_expr_over.ensures.0 passed) c.loop-part.invariant

pub are_some_over-returns : goal.are_some_over-returns
are_some_over-returns t c =
    let end : length c.args.parts.now ≤ c.loop-part.part-index = omega arith in
    let some : 2 ≤ length c.args.parts.now = omega arith in
    let all = all_found (IsExprOver c.args.meter.now c.args.columns) c.args.parts.now c.loop-part.part-index end c.loop-part.invariant in
    ((λ told. (all.0 told, some)), (λ both. all.1 both.0))
