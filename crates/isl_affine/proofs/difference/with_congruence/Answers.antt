use Rattle.std.proofs.Common.{◌∙◌, arith, to_z-of_z}
use Rattle.std.proofs.lemmas.Grind.{common_steps}
use Rattle.isl_affine.proofs.RowLaws.{congruence_made}
use Rattle.isl_affine.proofs.difference.with_congruence.Goals as goal

pub returns : goal.returns
returns c = (
  congruence_made c.args.meter.now c.factor_form.new.meter c.args.scope.now c.args.system c.factor_form.new.system c.in_ok-new.new
      c.args.congruence.now.factor.now c.in_ok-form.form c.args.congruence.now.kind c.args.congruence.now.modulus _ c.in_ok-form.ensures.0
      c.in_ok-form.ensures.1 c.in_ok-new.ensures.0 (grind (arith, common_steps, to_z-of_z)),
  c.in_ok-new.ensures.1 ∙ c.in_ok-form.ensures.1,
)
