use Rattle.std.proofs.Common.{◌≡◌, ◌+◌, arith, sym, ◌∙◌}
use Rattle.isl_blocks.specs.Blocks.{width_at}
use Rattle.isl_blocks.specs.Cases.{DiffersAt}
use Rattle.isl_blocks.proofs.WidthLaws.{width_is}
use Rattle.isl_orders.specs.Cases.{DiffersBefore}
use Rattle.isl_orders.specs.Comparison.{IsApart}
use Rattle.isl_orders.proofs.CaseLaws.{cases_as, cases_none, cases_push, differs_apart, differs_more, differs_somewhere}
use Rattle.isl_orders.proofs.cases.places_apart.Goals as goal

pub order_case-requires-clause-at : goal.order_case-requires-clause-at
order_case-requires-clause-at c =
    let is = width_is c.args.widths.now c.args.first 0 c.requires.first in
    let l = c.loop-at-test.true in
    omega (arith, is, l)

pub loop-at-init : goal.loop-at-init
loop-at-init c =
    cases_none c.args.widths.now c.args.first c.args.second c.args.direction c.new-cases.result.items c.new-cases.ensures.items

pub loop-at-preserved : goal.loop-at-preserved
loop-at-preserved c =
    let d = c.args.direction in
    let i = c.loop-at.at in
    let w = width_at c.args.widths.now c.args.first in
    let is = width_is c.args.widths.now c.args.first 0 c.requires.first in
    let low = c.loop-at-test.true in
    cases_push c.args.widths.now c.args.first c.args.second (DiffersBefore d i) (DiffersAt d i) (DiffersBefore d (i + 1))
    c.loop-at.cases.items
    c.in_ok-order_case.field-0 c.push.new.self.items c.loop-at.invariant c.in_ok-order_case.ensures c.in_ok-push.ensures.items
    (differs_more d i) (differs_somewhere d i w (width_at c.args.widths.now c.args.second) (omega (arith, is, low)) c.requires.same)

pub returns : goal.returns
returns c =
    let widths = c.args.widths.now in
    let a = c.args.first in
    let d = c.args.direction in
    let is = width_is widths a 0 c.requires.first in
    let end = c.loop-at-test.false in
    let low = c.loop-at.auto.at-end in
    let all : c.loop-at.at ≡ width_at widths a = omega (arith, is, end, low) in
    cases_as widths a c.args.second (DiffersBefore d c.loop-at.at) (IsApart d) c.loop-at.cases.items c.requires.same
    (λ xs ys m n. differs_apart d c.loop-at.at xs ys (m ∙ sym all) (n ∙ sym all)) c.loop-at.invariant
