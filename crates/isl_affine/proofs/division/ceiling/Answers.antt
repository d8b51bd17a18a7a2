use Rattle.std.proofs.Common.{◌≡◌, ◌∙◌, negsuc, arith, to_z-of_z}
use Rattle.std.proofs.lemmas.Grind.{common_steps}
use Rattle.isl_affine.proofs.DivisionLaws.{ceiling_step}
use Rattle.isl_affine.proofs.division.ceiling.Goals as goal

pub returns : goal.returns
returns c =
    let minus : c.new.result ≡ negsuc 0 = grind (arith, common_steps, to_z-of_z) in
    let again : c.new-2.result ≡ negsuc 0 = grind (arith, common_steps, to_z-of_z) in (
      ceiling_step c.args.meter.now c.plus.new.meter c.floor.new.meter c.plus-2.new.meter c.args.system.now c.floor.new.system c.args.form
          c.number.result c.number-2.result c.in_ok-opposite.opposite c.in_ok-below.below c.in_ok-made.made c.args.k _ c.new.result
          c.new-2.result c.requires.over c.number.ensures c.number-2.ensures minus again c.in_ok-opposite.ensures c.in_ok-below.ensures.0
          (grind (arith, common_steps, to_z-of_z)) c.in_ok-below.ensures.1 c.in_ok-made.ensures,
      c.in_ok-made.ensures.meter ∙ c.in_ok-below.ensures.1
          ∙ c.in_ok-opposite.ensures.meter,
    )
