use Rattle.std.proofs.Common.{◌≡◌, ◌<◌, ◌++◌, length, arith, rules}
use Rattle.std.proofs.lemmas.Grind.{common_steps}
use Rattle.isl_refute.proofs.WithinLaws.{negation_cut, out_row_at, rows_before}
use Rattle.isl_refute.proofs.added.negations.Goals as goal

pub negation-requires : goal.negation-requires
negation-requires c =
    let low : c.loop-row.row-index < length c.args.rows.now = omega arith in
    out_row_at c.args.meter.now c.loop-row.meter c.args.columns c.args.rows.now c.loop-row.row-index c.row-item.result
    c.loop-row.invariant.2 low
    c.row-item.is c.requires

pub returns-in_err-negated : goal.returns-in_err-negated
returns-in_err-negated c =
    let low : c.loop-row.row-index < length c.args.rows.now = omega arith in
    let found = negation_cut c.args.meter.now c.loop-row.meter c.negation.new.meter c.args.columns c.args.rows.now c.loop-row.row-index
    c.row-item.result c.in_err-negated.field-0.0 low c.row-item.is c.loop-row.invariant.2 c.in_err-negated.ensures in
    search (rules, found)

pub loop-row-preserved : goal.loop-row-preserved
loop-row-preserved c =
    let low : c.loop-row.row-index < length c.args.rows.now = omega arith in
    let g = c.args.meter.now in
    let more : c.append.new.self ≡ c.loop-row.made ++ c.in_ok-negated.negated = grind (arith, common_steps) in
    rows_before g c.loop-row.meter c.negation.new.meter c.args.columns c.args.rows.now c.loop-row.row-index c.row-item.result
    c.loop-row.made
    c.in_ok-negated.negated c.append.new.self low c.row-item.is c.loop-row.invariant.0 c.loop-row.invariant.1 c.loop-row.invariant.2
    c.in_ok-negated.ensures.0 c.in_ok-negated.ensures.1 c.in_ok-negated.ensures.2 more
