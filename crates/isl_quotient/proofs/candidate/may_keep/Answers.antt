use Rattle.std.proofs.Common.{◌≡◌, ◌<◌, ◌≤◌, false, arith, sym, ◌∙◌, get_or, length}
use Rattle.std.proofs.lemmas.Bool.{false≢true}
use Rattle.std.proofs.lemmas.Grind.{common_steps}
use Rattle.std.specs.List.{All}
use Rattle.isl_piece.specs.declared.row.Row.{Row}
use Rattle.isl_quotient.specs.Quotient.{PinsNone}
use Rattle.isl_quotient.proofs.PinnedLaws.{all_seen, one_more}
use Rattle.isl_quotient.proofs.candidate.may_keep.Goals as goal

pub loop-row-preserved : goal.loop-row-preserved
loop-row-preserved c =
    let rows = c.args.rows.now in
    let P : Row → Type 0 = λ row. All (λ col. PinsNone rows col row) c.args.cols.now in
    let i = c.loop-row.row-index in
    let x = c.row-item.result in
    let low : i < length rows = grind (arith, common_steps) in
    let at : x ≡ get_or rows i x = grind (arith, common_steps) in
    one_more P rows i x low at (c.is_upper.ensures (grind (arith, common_steps))) c.loop-row.invariant

pub returns-then-has_mixed : goal.returns-then-has_mixed
returns-then-has_mixed c = λ _.
    let rows = c.args.rows.now in
    let P : Row → Type 0 = λ row. All (λ col. PinsNone rows col row) c.args.cols.now in
    let end : length rows ≤ c.loop-row.row-index = grind (arith, common_steps) in
    all_seen P rows c.loop-row.row-index end c.loop-row.invariant

pub returns-else-has_mixed : goal.returns-else-has_mixed
returns-else-has_mixed c = λ _.
    let rows = c.args.rows.now in
    let P : Row → Type 0 = λ row. All (λ col. PinsNone rows col row) c.args.cols.now in
    let end : length rows ≤ c.loop-row.row-index = grind (arith, common_steps) in
    all_seen P rows c.loop-row.row-index end c.loop-row.invariant
