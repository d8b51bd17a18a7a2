use Rattle.std.proofs.Common.{◌≡◌, ◌∙◌, ◌+ℤ◌, ap, arith, ℤ, of_z, to_z, to_z-of_z, sym, subst, length, List}
use Rattle.std.specs.List.{All}
use Rattle.isl_math.specs.Dot.{dot}
use Rattle.std.specs.Int.{w128}
use Rattle.std.proofs.lemmas.Grind.{common_steps}
use Rattle.isl_meter.specs.Gauge.{IsWithin}
use Rattle.isl_loop.specs.Lists.{sum_of}
use Rattle.isl_bounds.proofs.ExprLaws.{made_over, made_value}
use Rattle.isl_bounds.proofs.form.form.Goals as goal

pub returns-clause-over : goal.returns-clause-over
returns-clause-over c g n within long =
    let z = to_z w128 (of_z w128 c.args.row.now.constant) in
    let same : z ≡ c.args.row.now.constant = grind (arith, common_steps, to_z-of_z) in
    let coefs : c.as_slice.result.now ≡ c.args.row.now.coefs = c.as_slice.ensures in
    made_over g n c.in_ok-summands.field-0 z
    (c.in_ok-summands.ensures.over g n (subst (All (IsWithin g)) (sym coefs) within.coefs) (ap length coefs ∙ long))
    (subst (IsWithin g) (sym same) within.constant)

pub returns-clause-value : goal.returns-clause-value
returns-clause-value c point long =
    let z = to_z w128 (of_z w128 c.args.row.now.constant) in
    let same : z ≡ c.args.row.now.constant = grind (arith, common_steps, to_z-of_z) in
    let coefs : c.as_slice.result.now ≡ c.args.row.now.coefs = c.as_slice.ensures in
    made_value c.in_ok-summands.field-0 z point ∙ ap (λ (y : ℤ). sum_of c.in_ok-summands.field-0 point +ℤ y) same
    ∙ ap (λ (y : ℤ). y +ℤ c.args.row.now.constant)
    (c.in_ok-summands.ensures.value point (ap length coefs ∙ long) ∙ ap (λ (cs : List ℤ). dot cs point) coefs)
