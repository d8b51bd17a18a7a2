use Rattle.std.proofs.Common.{◌≡◌, ◌∙◌, negsuc, arith, to_z-of_z}
use Rattle.std.proofs.lemmas.Grind.{common_steps}
use Rattle.isl_affine.proofs.RowLaws.{entry_made}
use Rattle.isl_affine.proofs.comparison.entered.Goals as goal

pub returns : goal.returns
returns c =
    let minus : c.new.result ≡ negsuc 0 = grind (arith, common_steps, to_z-of_z) in (
      entry_made c.args.meter.now c.term_form.new.meter c.plus.new.meter c.args.scope.now c.args.system c.term_form.new.system c.in_ok-new.new
          c.args.term.now c.in_ok-form.form c.in_ok-other.other c.in_ok-difference.difference c.new.result c.args.column c.requires.column
          c.in_ok-form.ensures.0 c.in_ok-form.ensures.1 c.in_ok-other.ensures minus c.in_ok-difference.ensures c.in_ok-new.ensures.0,
      c.in_ok-new.ensures.1 ∙ c.in_ok-difference.ensures.meter ∙ c.in_ok-form.ensures.1,
    )
