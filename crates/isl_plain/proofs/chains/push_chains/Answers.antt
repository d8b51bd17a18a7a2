use Rattle.std.proofs.Common.{◌+◌, drop}
use Rattle.isl_plain.specs.Rows.{written_chain, written_list}
use Rattle.isl_plain.specs.Width.{width_of, added_in, PassesIn}
use Rattle.isl_plain.proofs.JoinLaws.{next_rows, next_chain}
use Rattle.isl_plain.proofs.chains.push_chains.Goals as goal

pub loop-i-preserved : goal.loop-i-preserved
loop-i-preserved c =
    let places = c.args.places.now in
    let n = width_of places in
    let fs = c.args.formulas.now in
    let i = c.loop-i.i in
    next_rows (λ g. PassesIn g places) (added_in places) c.args.meter.now c.loop-i.meter c.push_chain.new.meter c.args.rows.now
    c.loop-i.rows c.push_chain.new.rows (written_list n (drop i fs)) (written_chain n c.index-formulas-i.result)
    (written_list n (drop (i + 1) fs)) (written_list n fs) c.loop-i.invariant c.in_default.ensures
    (next_chain n fs i c.index-formulas-i.result c.index-formulas-i.is c.loop-i-test.true)
