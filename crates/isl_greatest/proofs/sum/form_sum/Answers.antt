use Rattle.std.proofs.Common.{◌≡◌, ◌∙◌, ◌+ℤ◌, refl, sym, ap, subst, arith, ℤ, List, length, of_z, to_z, to_z-of_z}
use Rattle.std.specs.Int.{w128}
use Rattle.std.proofs.lemmas.Grind.{common_steps}
use Rattle.isl_meter.specs.Gauge.{IsWithin}
use Rattle.isl_loop.specs.declared.tree.Expr.{Expr}
use Rattle.isl_loop.specs.Expr.{expr_value}
use Rattle.isl_loop.specs.Formed.{IsExprOver}
use Rattle.isl_loop.specs.Lists.{sum_of}
use Rattle.isl_math.specs.Dot.{dot}
use Rattle.isl_greatest.proofs.QuasiLaws.{made_over, made_quasi, made_value}
use Rattle.isl_greatest.proofs.SumLaws.{summands_all}
use Rattle.isl_greatest.proofs.sum.form_sum.Goals as goal

pub new-requires : goal.new-requires
new-requires c = made_quasi c.in_ok-items.items (to_z w128 (of_z w128 c.get.result)) c.in_ok-items.ensures.quasi

pub returns-clause-over : goal.returns-clause-over
returns-clause-over c g n within constant long =
    let z = to_z w128 (of_z w128 c.get.result) in
    let same : z ≡ c.args.constant = grind (arith, common_steps, to_z-of_z) in
    subst (IsExprOver g n) (sym c.new.ensures)
    (made_over g n c.in_ok-items.items z (c.in_ok-items.ensures.over g n within long) (subst (IsWithin g) (sym same) constant))

pub returns-clause-value : goal.returns-clause-value
returns-clause-value c point long =
    let z = to_z w128 (of_z w128 c.get.result) in
    let same : z ≡ c.args.constant = grind (arith, common_steps, to_z-of_z) in
    ap (λ (e : Expr). expr_value e point) c.new.ensures ∙ made_value c.in_ok-items.items z point
    ∙ ap (λ (y : ℤ). sum_of c.in_ok-items.items point +ℤ y) same
    ∙ ap (λ (y : ℤ). y +ℤ c.args.constant) (summands_all c.args.coefs.now c.in_ok-items.items point c.in_ok-items.ensures long)
