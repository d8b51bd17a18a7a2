use Rattle.std.proofs.Common.{◌≡◌, ap, ap₂, sym, ◌∙◌, arith, List, take}
use Rattle.isl_piece.specs.declared.row.Row.{Row}
use Rattle.isl_blocks.specs.Blocks.{total, width_at}
use Rattle.isl_blocks.specs.CaseRows.{of_rows, same_rows}
use Rattle.isl_blocks.proofs.RowLaws.{same_made}
use Rattle.isl_blocks.proofs.WidthLaws.{ends_inside, width_is}
use Rattle.isl_blocks.proofs.cases.same_case.Goals as goal

pub same_rows-requires-clause-first : goal.same_rows-requires-clause-first
same_rows-requires-clause-first c =
    let ends = ends_inside c.args.widths.now c.args.first in
    let own = c.start_of-own.ensures in
    let all = c.total_of-columns.ensures in
    let width = width_is c.args.widths.now c.args.first 0 c.requires.first in
    omega (arith, ends, own, all, width)

pub same_rows-requires-clause-second : goal.same_rows-requires-clause-second
same_rows-requires-clause-second c =
    let ends = ends_inside c.args.widths.now c.args.second in
    let other = c.start_of-other.ensures in
    let all = c.total_of-columns.ensures in
    let width = width_is c.args.widths.now c.args.first 0 c.requires.first in
    let same = c.requires.same in
    omega (arith, ends, other, all, width, same)

pub returns : goal.returns
returns c =
    let widths = c.args.widths.now in
    let a = c.args.first in
    let b = c.args.second in
    let n = c.total_of-columns.result in
    let own = c.start_of-own.result in
    let other = c.start_of-other.result in
    let w = width_at widths a in
    let rows = c.in_ok-rows.ensures ∙ ap (same_rows n own other) (sym (width_is widths a 0 c.requires.first)) in
    let starts : same_rows n own other w ≡ same_rows (total widths) (total (take a widths)) (total (take b widths)) w =
    ap (λ m. same_rows m own other w) c.total_of-columns.ensures
    ∙ ap₂ (λ x y. same_rows (total widths) x y w) c.start_of-own.ensures c.start_of-other.ensures in
    same_made widths a b c.requires.first c.requires.second c.requires.differ c.requires.same c.from_rows.result
    (c.from_rows.ensures ∙ ap₂ (λ m (rows : List Row). of_rows m rows) c.total_of-columns.ensures (rows ∙ starts))
