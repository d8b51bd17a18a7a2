use Rattle.std.proofs.Common.{◌≡◌, ◌<◌, ◌≤◌, subst, arith, ℤ, List, length}
use Rattle.std.specs.Prelude.{IfOk}
use Rattle.isl_loop.specs.Expr.{expr_value}
use Rattle.isl_loop.specs.Lists.{extreme_in}
use Rattle.isl_bounds.specs.Side.{tighter}
use Rattle.isl_bounds.specs.declared.side.Side.{Side}
use Rattle.isl_piece.specs.System.{HoldRows}
use Rattle.isl_bounds.proofs.BoundLaws.{any_told, bounds_end, bounds_more, bounds_over}
use Rattle.isl_bounds.proofs.bound.bound_of.Goals as goal

pub loop-rows-preserved : goal.loop-rows-preserved
loop-rows-preserved c =
    let groups = c.args.groups.now in
    let low : c.loop-rows.rows-index < length groups = omega arith in
    bounds_more c.args.meter.now c.args.variables c.args.side HoldRows groups c.loop-rows.rows-index c.rows-item.result c.loop-rows.bounds
    c.in_ok-group_bound.field-0 c.push.new.self low c.rows-item.is c.loop-rows.invariant c.in_ok-group_bound.ensures c.in_ok-push.ensures.ok

pub returns : goal.returns
returns c =
    let groups = c.args.groups.now in
    let end : length groups ≤ c.loop-rows.rows-index = omega arith in
    let z = bounds_end c.args.meter.now c.args.variables c.args.side HoldRows groups c.loop-rows.rows-index c.loop-rows.bounds end
    c.loop-rows.invariant in
    any_told c.tightest.result c.args.meter.now c.args.variables c.args.side HoldRows groups c.loop-rows.bounds z c.requires.some
    (c.tightest.ensures.over c.args.meter.now c.args.variables c.limit-limit.ensures.bits_low
    (bounds_over c.args.meter.now c.args.variables c.args.side HoldRows groups c.loop-rows.bounds z))
    (subst (λ (side : Side). (point : List ℤ) → IfOk c.tightest.result (λ e. expr_value e point ≡ extreme_in
    (tighter side) c.loop-rows.bounds point))
    c.opposite.ensures c.tightest.ensures.value)
