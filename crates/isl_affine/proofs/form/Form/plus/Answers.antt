use Rattle.std.proofs.Common.{◌∙◌, ap, ap₂, subst, pos, ℕ, ℤ, List}
use Rattle.isl_math.specs.Dot.{weighted_sum}
use Rattle.isl_meter.specs.Gauge.{Gauge, IsWithin}
use Rattle.isl_affine.specs.Form.{padded}
use Rattle.isl_affine.proofs.FormLaws.{sum_made}
use Rattle.isl_affine.proofs.form.Form.plus.Goals as goal

pub returns : goal.returns
returns c =
    let sums = c.in_ok-coefs.ensures.exact in
    let constants = c.in_ok-constant.ensures.exact in
    sum_made c.args.meter.now c.sum_of.new.meter c.args.self c.args.other c.args.m c.pad.new.coefs c.pad-2.new.coefs c.in_ok-coefs.coefs
    c.in_ok-constant.constant c.requires.within c.requires.other_within
    (c.in_ok-pad.ensures ∙ ap (λ (n : ℕ). padded n c.args.self.coefs) c.len.ensures)
    (c.in_ok-pad-2.ensures ∙ ap (λ (n : ℕ). padded n c.args.other.coefs) c.len-2.ensures)
    (sums.0.0 ∙ ap₂ (λ (l r : List ℤ). weighted_sum (pos 1) l c.args.m r) c.as_slice.ensures c.as_slice-2.ensures)
    sums.0.1 constants.0
    (subst (λ (g : Gauge). IsWithin g c.in_ok-constant.constant) sums.1 constants.1)
    (constants.2 ∙ sums.1)
