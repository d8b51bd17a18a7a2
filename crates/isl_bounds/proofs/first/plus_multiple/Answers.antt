use Rattle.std.proofs.Common.{◌≡◌, ◌∙◌, refl, sym, ap, subst, arith, ℤ, List, length, of_z, to_z, to_z-of_z}
use Rattle.std.specs.Int.{w128}
use Rattle.std.specs.List.{All}
use Rattle.std.proofs.lemmas.Grind.{common_steps}
use Rattle.isl_math.specs.Dot.{dot}
use Rattle.isl_meter.specs.Gauge.{IsWithin}
use Rattle.isl_bounds.proofs.FirstLaws.{multiple_over, multiple_value}
use Rattle.isl_bounds.proofs.first.plus_multiple.Goals as goal

pub returns-clause-over : goal.returns-clause-over
returns-clause-over c g n own long over within =
    let z = to_z w128 (of_z w128 c.args.own.now.constant) in
    let same : z ≡ c.args.own.now.constant = grind (arith, common_steps, to_z-of_z) in
    let coefs : c.as_slice.result.now ≡ c.args.own.now.coefs = c.as_slice.ensures in
    multiple_over g n c.in_ok-items.items c.push.new.self _ z c.args.k _ c.args.beyond _ c.in_ok-push.ensures.ok
    (grind (arith, common_steps, to_z-of_z)) refl (sym c.in_ok-new.ensures) (grind (arith, common_steps, to_z-of_z))
    (c.in_ok-items.ensures.over g n (subst (All (IsWithin g)) (sym coefs) own.coefs) (ap length coefs ∙ long)) over c.requires within
    (subst (IsWithin g) (sym same) own.constant)

pub returns-clause-value : goal.returns-clause-value
returns-clause-value c point long =
    let z = to_z w128 (of_z w128 c.args.own.now.constant) in
    let same : z ≡ c.args.own.now.constant = grind (arith, common_steps, to_z-of_z) in
    let coefs : c.as_slice.result.now ≡ c.args.own.now.coefs = c.as_slice.ensures in
    multiple_value c.in_ok-items.items c.push.new.self _ z c.args.k _ (dot c.args.own.now.coefs point) c.args.own.now.constant
    c.args.beyond _
    point c.in_ok-push.ensures.ok (grind (arith, common_steps, to_z-of_z)) refl (sym c.in_ok-new.ensures)
    (grind (arith, common_steps, to_z-of_z))
    (c.in_ok-items.ensures.value point (ap length coefs ∙ long) ∙ ap (λ (cs : List ℤ). dot cs point) coefs) same
