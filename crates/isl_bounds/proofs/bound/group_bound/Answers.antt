use Rattle.std.proofs.Common.{◌≡◌, ◌<◌, ◌≤◌, subst, arith, List, length, get_or}
use Rattle.std.proofs.lemmas.Grind.{common_steps}
use Rattle.isl_piece.specs.declared.row.Row.{Row}
use Rattle.isl_piece.specs.Row.{HoldsRow}
use Rattle.isl_bounds.proofs.BoundLaws.{all_told, bounds_end, bounds_more, bounds_over}
use Rattle.isl_bounds.proofs.bound.group_bound.Goals as goal

pub loop-row-preserved : goal.loop-row-preserved
loop-row-preserved c =
    let rows = c.args.rows.now in
    let same : c.as_slice-row-items.result.now ≡ rows = c.as_slice-row-items.ensures in
    let at : c.row-item.result ≡ get_or rows c.loop-row.row-index c.row-item.result =
    subst (λ (rs : List Row). c.row-item.result ≡ get_or rs c.loop-row.row-index c.row-item.result) same c.row-item.is in
    let low : c.loop-row.row-index < length rows = grind (arith, common_steps) in
    bounds_more c.args.meter.now c.args.variables c.args.side HoldsRow rows c.loop-row.row-index c.row-item.result c.loop-row.bounds
    c.in_ok-end_bound.field-0 c.push.new.self low at c.loop-row.invariant c.in_ok-end_bound.ensures c.in_ok-push.ensures.ok

pub returns : goal.returns
returns c =
    let rows = c.args.rows.now in
    let end : length rows ≤ c.loop-row.row-index = grind (arith, common_steps) in
    let z = bounds_end c.args.meter.now c.args.variables c.args.side HoldsRow rows c.loop-row.row-index c.loop-row.bounds end
    c.loop-row.invariant in
    all_told c.tightest.result c.args.meter.now c.args.variables c.args.side HoldsRow rows c.loop-row.bounds z c.requires.some
    (c.tightest.ensures.over c.args.meter.now c.args.variables c.limit-limit.ensures.bits_low
    (bounds_over c.args.meter.now c.args.variables c.args.side HoldsRow rows c.loop-row.bounds z))
    c.tightest.ensures.value
