use Rattle.std.proofs.Common.{◌≡◌, ◌++◌, ◌∷◌, ◌∙◌, [], ◌*ℤ◌, refl, ap, subst, length}
use Rattle.std.specs.List.{remove}
use Rattle.isl_meter.specs.Gauge.{Gauge, IsWithin}
use Rattle.isl_piece.specs.declared.row.Row.{Row}
use Rattle.isl_piece.specs.Row.{coef_at}
use Rattle.isl_frame.proofs.SumLaws.{behind_whole}
use Rattle.isl_frame.proofs.ZipLaws.{pushed_within}
use Rattle.isl_frame.proofs.rows.through_behind.Goals as goal

pub returns : goal.returns
returns c =
    let row = c.args.row.now in
    let at = length c.args.frame.now in
    let sum = c.in_ok-sum.sum in
    let told = c.in_ok-sum.ensures in
    let copied = c.in_ok-front.ensures in
    let rest : c.remove-last.new.self ≡ remove row.coefs at =
    c.remove-last.ensures.rest ∙ ap (λ (r : Row). remove r.coefs at) copied in
    let last : c.remove-last.result ≡ coef_at row at = c.remove-last.ensures.value ∙ ap (λ (r : Row). coef_at r at) copied in
    let product = c.in_ok-product.ensures in
    let value : c.in_ok-product.product ≡ sum.scale *ℤ coef_at row at = product.0 ∙ ap (λ z. sum.scale *ℤ z) last in
    let small : IsWithin c.args.meter.now c.in_ok-product.product =
    subst (λ (g : Gauge). IsWithin g c.in_ok-product.product) told.1 product.1 in
    let pushed : c.push.new.self ≡ sum.row.coefs ++ (sum.scale *ℤ coef_at row at) ∷ [] =
    c.in_ok-push.ensures.ok ∙ ap (λ z. sum.row.coefs ++ z ∷ []) value in (
      (
        behind_whole c.args.variables row c.args.frame.now c.requires.row c.args.meter.now sum told.0.0 _ _ (rw (copied, rest) refl) told.0.1
            (rw pushed refl),
        pushed_within c.args.meter.now sum.row c.in_ok-product.product c.push.new.self told.0.0.within small c.in_ok-push.ensures.ok,
      ),
      product.2 ∙ told.1,
    )
