use Rattle.std.proofs.Common.{◌≡◌, ◌+ℤ◌, refl, sym, subst, arith, length, of_z, to_z, to_z-of_z}
use Rattle.std.specs.Int.{w128}
use Rattle.std.proofs.lemmas.Grind.{common_steps}
use Rattle.isl_meter.specs.Gauge.{IsWithin}
use Rattle.isl_loop.specs.declared.tree.Expr.{out-Expr}
use Rattle.isl_bounds.proofs.FirstLaws.{plus_over, plus_value}
use Rattle.isl_bounds.proofs.first.plus.Goals as goal

pub returns : goal.returns
returns c =
    let g = c.args.meter.now in
    let e = c.args.expr in
    let more = c.in_ok-summands.field-0 in
    let n = length c.args.coefs.now in
    let z = to_z w128 (of_z w128 c.get.result) in
    let same : z ≡ c.in_ok-constant.constant = grind (arith, common_steps, to_z-of_z) in
    let number : z ≡ (out-Expr e).constant +ℤ c.args.constant = grind (arith, common_steps, to_z-of_z) in
    let meter : c.add.new.meter ≡ g = grind (arith, common_steps) in
    let within : IsWithin g z = subst (IsWithin g) (sym same) c.in_ok-constant.ensures.1 in (
      (
        plus_over g n e more c.append.new.self z c.in_ok-append.ensures c.requires.over
            (c.in_ok-summands.ensures.over g n c.requires.coefs refl)
            within,
        (λ point long. plus_value e more c.append.new.self z _ c.args.constant point c.in_ok-append.ensures number
            (c.in_ok-summands.ensures.value point long)),
      ),
      meter,
    )
