use Rattle.std.proofs.Common.{◌≡◌, ◌<◌, ◌≤◌, true, arith, length, to_z-of_z}
use Rattle.std.proofs.lemmas.Grind.{common_steps}
use Rattle.isl_loop.specs.declared.tree.Loop.{Loop}
use Rattle.isl_loop.specs.Formed.{IsLoopOver}
use Rattle.isl_ast.proofs.FormedLaws.{all_found, one_all, block_told, for_told, if_told}
use Rattle.isl_ast.proofs.formed.+formed.Goals as goal

pub is_loop_over-returns-in-Block : goal.is_loop_over-returns-in-Block
is_loop_over-returns-in-Block t c =
    block_told c.args.meter.now c.args.columns c.args.tree.now c.in-Block.parts c.as_slice.result.now c.are_loops_over.result
    c.in-Block.is c.as_slice.ensures c.are_loops_over.ensures

pub is_loop_over-returns-then-is_divisor : goal.is_loop_over-returns-then-is_divisor
is_loop_over-returns-then-is_divisor t c =
    for_told c.args.meter.now c.args.columns c.in-Some.more c.args.tree.now c.in-For.low c.in-For.high c.in-For.step _ c.in-For.body
    c.get.result.now c.is_expr_over.result c.is_expr_over-then-is_expr_over.result c.is_divisor.result c.is_loop_over.result c.in-For.is
    c.get.ensures (grind (arith, common_steps, to_z-of_z)) (grind (arith, common_steps)) c.if-is_expr_over.true c.is_expr_over.ensures
    c.if-is_expr_over-2.true c.is_expr_over-then-is_expr_over.ensures c.if-is_divisor.true c.is_divisor.ensures c.is_loop_over.ensures

pub is_loop_over-returns-then-branch : goal.is_loop_over-returns-then-branch
is_loop_over-returns-then-branch t c =
    if_told c.args.meter.now c.args.columns c.args.tree.now c.in-If.rows c.as_slice-in-If.result.now c.in-If.body
    c.get-then-branch.result.now c.in_ok-are_rows_over-in-If.field-0 c.is_loop_over-then-branch.result c.in-If.is c.as_slice-in-If.ensures
    c.get-then-branch.ensures (grind arith) c.in_ok-are_rows_over-in-If.ensures c.is_loop_over-then-branch.ensures

pub are_loops_over-loop-part-preserved : goal.are_loops_over-loop-part-preserved
are_loops_over-loop-part-preserved t c =
    let i = c.loop-part.part-index in
    let x = c.part-item.result in
    let low : i < length c.args.parts.now = omega arith in
    let passed : c.in_ok-is_loop_over.field-0 ≡ true = grind (arith, common_steps) in
    let P : Loop → Type 0 = IsLoopOver c.args.meter.now c.args.columns in
    one_all P c.args.parts.now i x low c.part-item.is (c.in_ok-is_loop_over.ensures.0 passed) c.loop-part.invariant

pub are_loops_over-returns : goal.are_loops_over-returns
are_loops_over-returns t c =
    let end : length c.args.parts.now ≤ c.loop-part.part-index = omega arith in
    all_found (IsLoopOver c.args.meter.now c.args.columns) c.args.parts.now c.loop-part.part-index end c.loop-part.invariant
