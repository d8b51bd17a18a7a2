use Rattle.std.proofs.Common.{◌<◌, ◌*ℤ◌, ◌∙◌, subst, arith, length}
use Rattle.isl_math.specs.Divide.{IsCongruent}
use Rattle.isl_meter.specs.Gauge.{Gauge, IsWithin}
use Rattle.isl_bounds.proofs.StepLaws.{all_within_more, congruent_more}
use Rattle.isl_bounds.proofs.step.coefs_modulo.Goals as goal

pub loop-i-preserved : goal.loop-i-preserved
loop-i-preserved c =
    let row = c.args.row.now in
    let d = c.in_ok-product_modulo.field-0 in
    let one = c.in_ok-product_modulo.ensures in
    let so_far = c.loop-i.invariant in
    let wide = c.requires.row.width in
    let low : c.loop-i.i < length row.coefs = omega (arith, wide) in
    let modulus = c.modulus.ensures in
    let near : IsCongruent row.k d (c.args.by *ℤ c.get.result) = rw modulus at one.0 in
    let within : IsWithin c.args.meter.now d = subst (λ (g : Gauge). IsWithin g d) so_far.2 one.1 in (
      congruent_more row.k c.args.by row.coefs c.loop-i.i c.loop-i.coefs c.get.result d c.push.new.self low c.get.ensures so_far.0 near
          c.in_ok-push.ensures.ok,
      all_within_more c.args.meter.now c.loop-i.coefs d c.push.new.self so_far.1 within c.in_ok-push.ensures.ok,
      one.2 ∙ so_far.2,
    )
