use Rattle.std.proofs.Common.{◌≡◌, ◌∙◌, pos, ◌-ℤ◌, arith, to_z-of_z}
use Rattle.std.proofs.lemmas.Grind.{common_steps}
use Rattle.isl_affine.proofs.DivisionLaws.{remainder_step}
use Rattle.isl_affine.proofs.division.remainder.Goals as goal

pub returns : goal.returns
returns c =
    let is : c.in_ok-opposite.opposite ≡ pos 0 -ℤ c.args.k = grind (arith, common_steps, to_z-of_z) in (
      remainder_step c.args.meter.now c.floor.new.meter c.sub.new.meter c.plus.new.meter c.args.system.now c.floor.new.system c.args.form
          c.in_ok-quotient.quotient c.in_ok-made.made c.args.k _ c.in_ok-opposite.opposite c.requires.over c.requires.divisor
          c.in_ok-quotient.ensures.0 (grind (arith, common_steps, to_z-of_z)) c.in_ok-quotient.ensures.1 is c.in_ok-opposite.ensures.2
          c.in_ok-made.ensures,
      c.in_ok-made.ensures.meter ∙ c.in_ok-opposite.ensures.2 ∙ c.in_ok-quotient.ensures.1,
    )
