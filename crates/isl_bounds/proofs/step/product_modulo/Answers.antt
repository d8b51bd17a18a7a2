use Rattle.std.proofs.Common.{◌≡◌, ◌*ℤ◌, ◌∙◌, ap, arith}
use Rattle.std.proofs.lemmas.Grind.{common_steps}
use Rattle.isl_math.specs.Divide.{floor_div, IsCongruent}
use Rattle.isl_bounds.proofs.StepLaws.{left_modulo, missing_modulo}
use Rattle.isl_bounds.proofs.step.product_modulo.Goals as goal

pub returns-then-lt : goal.returns-then-lt
returns-then-lt c =
    let k = c.args.k in
    let product = c.in_ok-product.product in
    let left = c.modulo-left.result in
    let near : IsCongruent k left (c.args.by *ℤ c.args.number) =
    left_modulo c.args.number c.args.by k (floor_div c.args.number k) product (floor_div product k) left
    (c.in_ok-product.ensures.0 ∙ ap (λ z. c.args.by *ℤ z) c.modulo.ensures.rest) c.modulo-left.ensures.rest in
    let meter : c.sub.new.meter ≡ c.args.meter.now = grind (arith, common_steps) in
    let missing = missing_modulo k left (c.args.by *ℤ c.args.number) c.in_ok-missing.missing near c.in_ok-missing.ensures.0 in
    (rw c.neg.ensures.value missing, grind (arith, common_steps), meter)

pub returns : goal.returns
returns c =
    let k = c.args.k in
    let product = c.in_ok-product.product in
    let left = c.modulo-left.result in
    let near : IsCongruent k left (c.args.by *ℤ c.args.number) =
    left_modulo c.args.number c.args.by k (floor_div c.args.number k) product (floor_div product k) left
    (c.in_ok-product.ensures.0 ∙ ap (λ z. c.args.by *ℤ z) c.modulo.ensures.rest) c.modulo-left.ensures.rest in
    let meter : c.sub.new.meter ≡ c.args.meter.now = grind (arith, common_steps) in
    (near, grind (arith, common_steps), meter)
