use Rattle.std.proofs.Common.{◌≡◌, ◌∙◌, negsuc, arith, to_z-of_z}
use Rattle.std.proofs.lemmas.Grind.{common_steps}
use Rattle.isl_affine.proofs.RowLaws.{zero_bound, least_bound, above_bound}
use Rattle.isl_affine.proofs.difference.with_difference.Goals as goal

pub returns-in_ok-new-in-Zero : goal.returns-in_ok-new-in-Zero
returns-in_ok-new-in-Zero c = (
  zero_bound c.args.meter.now c.difference_form.new.meter c.args.scope.now c.args.system c.difference_form.new.system
      c.in_ok-new-in-Zero.new c.args.difference.now.greater.now c.args.difference.now.less.now c.in_ok-form.form c.args.difference.now.bound
      c.in_ok-form.ensures.0 c.in_ok-form.ensures.1 c.in_ok-new-in-Zero.ensures.0 c.in-Zero.is,
  c.in_ok-new-in-Zero.ensures.1 ∙ c.in_ok-form.ensures.1,
)

pub returns-in_ok-new-in-AtLeast : goal.returns-in_ok-new-in-AtLeast
returns-in_ok-new-in-AtLeast c = (
  least_bound c.args.meter.now c.difference_form.new.meter c.args.scope.now c.args.system c.difference_form.new.system
      c.in_ok-new-in-AtLeast.new c.args.difference.now.greater.now c.args.difference.now.less.now c.in_ok-form.form
      c.args.difference.now.bound c.in_ok-form.ensures.0 c.in_ok-form.ensures.1 c.in_ok-new-in-AtLeast.ensures.0 c.in-AtLeast.is,
  c.in_ok-new-in-AtLeast.ensures.1 ∙ c.in_ok-form.ensures.1,
)

pub returns-in_ok-new-in-Above : goal.returns-in_ok-new-in-Above
returns-in_ok-new-in-Above c =
    let minus : c.new.result ≡ negsuc 0 = grind (arith, common_steps, to_z-of_z) in (
      above_bound c.args.meter.now c.difference_form.new.meter c.plus.new.meter c.args.scope.now c.args.system c.difference_form.new.system
          c.in_ok-new-in-Above.new c.args.difference.now.greater.now c.args.difference.now.less.now c.in_ok-form.form c.number-unit.result
          c.in_ok-less-in-Above.less c.new.result c.one.result c.args.difference.now.bound c.in_ok-form.ensures.0 c.in_ok-form.ensures.1 minus
          c.number-unit.ensures c.one.ensures.value c.in_ok-less-in-Above.ensures c.in_ok-new-in-Above.ensures.0 c.in-Above.is,
      c.in_ok-new-in-Above.ensures.1 ∙ c.in_ok-less-in-Above.ensures.meter ∙ c.in_ok-form.ensures.1,
    )
