use Rattle.std.proofs.Common.{◌∙◌, sym, subst}
use Rattle.isl_math.specs.Divide.{floor_div}
use Rattle.isl_affine.specs.declared.form.Form.{Form}
use Rattle.isl_affine.specs.Form.{IsStep}
use Rattle.isl_affine.proofs.DivisionLaws.{quotient_constant}
use Rattle.isl_affine.proofs.division.quotient.Goals as goal

pub returns-then-is_constant : goal.returns-then-is_constant
returns-then-is_constant c =
    subst (λ (f : Form). IsStep c.args.meter.now c.args.system.now c.args.system.now c.args.form.now (λ z. floor_div z c.args.k) f)
    (sym c.number.ensures)
    (quotient_constant c.args.meter.now c.args.system.now c.args.form.now c.args.k c.floor_div.result c.requires
    (sym c.is_constant.ensures ∙ c.if-is_constant.true) c.floor_div.ensures.value c.floor_div.ensures.within)
