use Rattle.std.proofs.Common.{◌≡◌, ◌<◌, ◌≤◌, true, false, arith, sym, ◌∙◌, get_or, length}
use Rattle.std.proofs.lemmas.Bool.{false≢true}
use Rattle.std.proofs.lemmas.Grind.{common_steps}
use Rattle.isl_piece.specs.declared.row.Row.{Row}
use Rattle.isl_quotient.specs.Pair.{names_only}
use Rattle.isl_quotient.specs.Quotient.{PinsNone}
use Rattle.isl_quotient.proofs.PinnedLaws.{all_seen, one_more}
use Rattle.isl_quotient.proofs.pairs.pair_at.Goals as goal

pub loop-upper-preserved : goal.loop-upper-preserved
loop-upper-preserved c =
    let rows = c.args.rows.now in
    let P : Row → Type 0 = λ r. names_only c.args.col c.args.cols.now r ≡ true → PinsNone rows c.args.col r in
    let i = c.loop-upper.upper in
    let x = c.index-rows-upper.result in
    let low : i < length rows = grind (arith, common_steps) in
    let at : x ≡ get_or rows i x = grind (arith, common_steps) in
    one_more P rows i x low at (c.partner_of.ensures.none (grind (arith, common_steps))) c.loop-upper.invariant

pub returns-clause-none : goal.returns-clause-none
returns-clause-none c = λ _.
    let rows = c.args.rows.now in
    let P : Row → Type 0 = λ r. names_only c.args.col c.args.cols.now r ≡ true → PinsNone rows c.args.col r in
    let end : length rows ≤ c.loop-upper.upper = grind (arith, common_steps) in
    all_seen P rows c.loop-upper.upper end c.loop-upper.invariant
