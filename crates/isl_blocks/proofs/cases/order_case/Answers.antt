use Rattle.std.proofs.Common.{◌≡◌, ap, ap₂, ◌∙◌, arith, ◌++◌, ◌∷◌, [], List, take}
use Rattle.isl_piece.specs.declared.row.Row.{Row}
use Rattle.isl_blocks.specs.Blocks.{total}
use Rattle.isl_blocks.specs.CaseRows.{case_rows, of_rows}
use Rattle.isl_blocks.proofs.RowLaws.{case_made}
use Rattle.isl_blocks.proofs.WidthLaws.{ends_inside, width_inside}
use Rattle.isl_blocks.proofs.cases.order_case.Goals as goal

pub start_of-own-requires-clause-inside : goal.start_of-own-requires-clause-inside
start_of-own-requires-clause-inside c = width_inside c.args.widths.now c.args.first c.args.at c.requires.at

pub start_of-other-requires-clause-inside : goal.start_of-other-requires-clause-inside
start_of-other-requires-clause-inside c =
    let same = c.requires.same in
    let at = c.requires.at in
    width_inside c.args.widths.now c.args.second c.args.at (omega (arith, same, at))

pub same_rows-requires-clause-first : goal.same_rows-requires-clause-first
same_rows-requires-clause-first c =
    let ends = ends_inside c.args.widths.now c.args.first in
    let own = c.start_of-own.ensures in
    let all = c.total_of-columns.ensures in
    let at = c.requires.at in
    omega (arith, ends, own, all, at)

pub same_rows-requires-clause-second : goal.same_rows-requires-clause-second
same_rows-requires-clause-second c =
    let ends = ends_inside c.args.widths.now c.args.second in
    let other = c.start_of-other.ensures in
    let all = c.total_of-columns.ensures in
    let at = c.requires.at in
    let same = c.requires.same in
    omega (arith, ends, other, all, at, same)

pub overflow_add-own : goal.overflow_add-own
overflow_add-own c =
    let ends = ends_inside c.args.widths.now c.args.first in
    let own = c.start_of-own.ensures in
    let at = c.requires.at in
    let fits = c.requires.fits in
    omega (arith, ends, own, at, fits)

pub overflow_add-other : goal.overflow_add-other
overflow_add-other c =
    let ends = ends_inside c.args.widths.now c.args.second in
    let other = c.start_of-other.ensures in
    let at = c.requires.at in
    let same = c.requires.same in
    let fits = c.requires.fits in
    omega (arith, ends, other, at, same, fits)

pub next_row-requires-clause-first : goal.next_row-requires-clause-first
next_row-requires-clause-first c =
    let ends = ends_inside c.args.widths.now c.args.first in
    let own = c.start_of-own.ensures in
    let all = c.total_of-columns.ensures in
    let at = c.requires.at in
    omega (arith, ends, own, all, at)

pub next_row-requires-clause-second : goal.next_row-requires-clause-second
next_row-requires-clause-second c =
    let ends = ends_inside c.args.widths.now c.args.second in
    let other = c.start_of-other.ensures in
    let all = c.total_of-columns.ensures in
    let at = c.requires.at in
    let same = c.requires.same in
    omega (arith, ends, other, all, at, same)

pub returns : goal.returns
returns c =
    let widths = c.args.widths.now in
    let a = c.args.first in
    let b = c.args.second in
    let at = c.args.at in
    let d = c.args.direction in
    let n = c.total_of-columns.result in
    let own = c.start_of-own.result in
    let other = c.start_of-other.result in
    let same = c.requires.same in
    let low = c.requires.at in
    let here = width_inside widths a at low in
    let there = width_inside widths b at (omega (arith, same, low)) in
    let rows : c.push.new.self ≡ case_rows n own other at d =
    c.in_ok-push.ensures.ok ∙ ap₂ (λ (rows : List Row) (r : Row). rows ++ r ∷ []) c.in_ok-rows.ensures c.in_ok-next_row.ensures in
    let starts : case_rows n own other at d ≡ case_rows (total widths) (total (take a widths)) (total (take b widths)) at d =
    ap (λ m. case_rows m own other at d) c.total_of-columns.ensures
    ∙ ap₂ (λ x y. case_rows (total widths) x y at d) c.start_of-own.ensures c.start_of-other.ensures in
    case_made widths a b here there c.requires.differ same at low d c.from_rows.result
    (c.from_rows.ensures ∙ ap₂ (λ m (rows : List Row). of_rows m rows) c.total_of-columns.ensures (rows ∙ starts))
