use Rattle.std.proofs.Common.{◌∷◌, [], take, arith}
use Rattle.isl_shadows.specs.Exact.{AreAdded}
use Rattle.isl_omega.specs.Sides.{on_side}
use Rattle.isl_omega.specs.declared.sides.Side.TheVariants.{Free}
use Rattle.isl_shadows.proofs.ExactLemmas.{on_side_next, added_more}
use Rattle.isl_column.proofs.exact.push_free.Goals as goal

pub loop-row-preserved : goal.loop-row-preserved
loop-row-preserved c =
    let g = c.args.meter.now in
    let col = c.args.column.at in
    let rows = c.args.rows.now in
    let i = c.loop-row.row-index in
    let row = c.row-item.result in
    let more : AreAdded g col (on_side Free col (row ∷ [])) c.loop-row.short c.push_row.new.short = grind arith in
    rw (on_side_next Free col rows i row c.loop-row-test.true c.row-item.is) (added_more g col (on_side Free col (take i rows)) (on_side Free col (row ∷ [])) c.args.short.now c.loop-row.short c.push_row.new.short c.loop-row.invariant more)
