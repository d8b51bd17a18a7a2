use Rattle.std.proofs.Common.{◌≡◌, ◌<◌, ◌≤◌, arith, get_or, length}
use Rattle.std.proofs.lemmas.Grind.{common_steps}
use Rattle.isl_piece.specs.Row.{IsRowWithin}
use Rattle.isl_quotient.proofs.PinnedLaws.{all_seen, one_more}
use Rattle.isl_quotient.proofs.told.are_rows_within.Goals as goal

pub loop-row-preserved : goal.loop-row-preserved
loop-row-preserved c =
    let rows = c.args.rows.now in
    let i = c.loop-row.row-index in
    let x = c.row-item.result in
    let low : i < length rows = grind (arith, common_steps) in
    let at : x ≡ get_or rows i x = grind (arith, common_steps) in
    one_more (IsRowWithin c.args.meter.now) rows i x low at (c.is_row_within.ensures (grind (arith, common_steps))) c.loop-row.invariant

pub returns : goal.returns
returns c = λ _.
    let end : length c.args.rows.now ≤ c.loop-row.row-index = grind (arith, common_steps) in
    all_seen (IsRowWithin c.args.meter.now) c.args.rows.now c.loop-row.row-index end c.loop-row.invariant
