use Rattle.std.proofs.Common.{◌<◌, length, arith}
use Rattle.isl_refute.proofs.WithinLaws.{left_more_negations, too_few}
use Rattle.isl_refute.proofs.added.has_negations.Goals as goal

pub loop-row-preserved : goal.loop-row-preserved
loop-row-preserved c =
    let low : c.loop-row.row-index < length c.args.rows.now = omega arith in
    left_more_negations c.args.columns c.args.rows.now c.loop-row.row-index c.row-item.result c.loop-row.left c.negations_of-own.result _
    c.args.count low c.row-item.is c.negations_of-own.ensures (omega arith) c.loop-row.invariant

pub returns-then-left-own : goal.returns-then-left-own
returns-then-left-own c =
    let low : c.loop-row.row-index < length c.args.rows.now = omega arith in
    too_few c.args.columns c.args.rows.now c.loop-row.row-index c.row-item.result c.loop-row.left c.negations_of-own.result c.args.count low
    c.row-item.is c.negations_of-own.ensures (omega arith) c.loop-row.invariant
