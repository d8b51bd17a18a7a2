use Rattle.std.proofs.Common.{arith}
use Rattle.std.proofs.lemmas.Grind.{common_steps}
use Rattle.isl_plain.specs.Width.{width_of, place_in}
use Rattle.isl_plain.proofs.PassLaws.{added_more, term_failed, length-with_amount}
use Rattle.isl_plain.proofs.rows.add_term.Goals as goal

pub returns-in-Err : goal.returns-in-Err
returns-in-Err c =
    term_failed c.args.meter.now c.loop-i.meter c.add_part.new.meter c.args.row.now c.loop-i.row c.args.takes (width_of c.args.places.now)
    (place_in c.args.places.now) c.args.term.now c.loop-i.i c.index-term-i.result
    c.index-term-i.is c.loop-i-test.true c.loop-i.invariant.0 c.loop-i.invariant.2 c.in-Err.ensures

pub loop-i-preserved : goal.loop-i-preserved
loop-i-preserved c = (
  grind (arith, common_steps, added_more),
  grind (arith, common_steps),
  grind (arith, common_steps),
  grind (arith, common_steps, length-with_amount),
)
