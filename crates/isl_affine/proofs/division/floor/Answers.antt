use Rattle.std.proofs.Common.{◌≡◌, arith, to_z-of_z}
use Rattle.std.proofs.lemmas.Grind.{common_steps}
use Rattle.isl_affine.proofs.DivisionLaws.{floor_step}
use Rattle.isl_affine.proofs.division.floor.Goals as goal

pub returns : goal.returns
returns c =
    let same : c.in_ok-k.k ≡ c.args.k = grind (arith, common_steps, to_z-of_z) in (
      floor_step c.args.meter.now c.measured.new.meter c.args.system.now c.quotient.new.system c.args.form.now c.in_ok-made.made c.args.k
          c.in_ok-k.k same c.in_ok-k.ensures.2 c.in_ok-made.ensures,
      c.in_ok-k.ensures.2,
    )
