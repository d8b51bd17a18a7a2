use Rattle.std.proofs.Common.{◌∙◌, arith, to_z-of_z}
use Rattle.std.proofs.lemmas.Grind.{common_steps}
use Rattle.isl_affine.proofs.DivisionLaws.{turn_more}
use Rattle.isl_affine.proofs.division.remainders.Goals as goal

pub loop-i-preserved : goal.loop-i-preserved
loop-i-preserved c = (
  turn_more c.args.meter.now c.loop-i.meter c.args.system.now c.loop-i.system c.remainder.new.system c.args.form c.loop-i.made c.in-Ok.rest
      c.args.moduli.now c.loop-i.i _ c.loop-i-test.true c.loop-i.invariant.0 c.loop-i.invariant.1 c.in-Ok.ensures.0
      (grind (arith, common_steps, to_z-of_z)),
  c.in-Ok.ensures.1 ∙ c.loop-i.invariant.1,
)
