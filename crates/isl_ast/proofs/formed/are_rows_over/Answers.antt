use Rattle.std.proofs.Common.{◌≡◌, ◌<◌, ◌≤◌, true, arith, length}
use Rattle.std.proofs.lemmas.Grind.{common_steps}
use Rattle.isl_piece.specs.declared.row.Row.{Row}
use Rattle.isl_loop.specs.Formed.{IsRowOver}
use Rattle.isl_ast.proofs.FormedLaws.{all_found, one_all}
use Rattle.isl_ast.proofs.formed.are_rows_over.Goals as goal

pub loop-row-preserved : goal.loop-row-preserved
loop-row-preserved c =
    let i = c.loop-row.row-index in
    let x = c.row-item.result in
    let low : i < length c.args.rows.now = omega arith in
    let passed : c.in_ok-is_row_over.field-0 ≡ true = grind (arith, common_steps) in
    let P : Row → Type 0 = IsRowOver c.args.meter.now c.args.columns in
    one_all P c.args.rows.now i x low c.row-item.is (c.in_ok-is_row_over.ensures.0 passed) c.loop-row.invariant

pub returns : goal.returns
returns c =
    let end : length c.args.rows.now ≤ c.loop-row.row-index = omega arith in
    all_found (IsRowOver c.args.meter.now c.args.columns) c.args.rows.now c.loop-row.row-index end c.loop-row.invariant
