use Rattle.std.proofs.Common.{◌≡◌, ◌∙◌, negsuc, arith, to_z-of_z}
use Rattle.std.proofs.lemmas.Grind.{common_steps}
use Rattle.isl_affine.proofs.RowLaws.{difference_made}
use Rattle.isl_affine.proofs.difference.difference_form.Goals as goal

pub returns : goal.returns
returns c =
    let minus : c.new.result ≡ negsuc 0 = grind (arith, common_steps, to_z-of_z) in (
      difference_made c.args.meter.now c.term_form.new.meter c.term_form-2.new.meter c.plus.new.meter c.args.scope.now c.args.system.now
          c.term_form.new.system c.term_form-2.new.system c.args.greater.now c.args.less.now c.in_ok-left.left c.in_ok-right.right
          c.in_ok-form.form c.new.result c.in_ok-left.ensures.0 c.in_ok-left.ensures.1 c.in_ok-right.ensures.0 c.in_ok-right.ensures.1 minus
          c.in_ok-form.ensures,
      c.in_ok-form.ensures.meter ∙ c.in_ok-right.ensures.1 ∙ c.in_ok-left.ensures.1,
    )
