use Rattle.std.proofs.Common.{◌≡◌, ◌+ℤ◌, ◌*ℤ◌, arith, get_or, to_z-of_z}
use Rattle.std.proofs.lemmas.Grind.{common_steps}
use Rattle.isl_affine.proofs.NestedLaws.{same_division}
use Rattle.isl_affine.proofs.division.unnested.Goals as goal

pub returns : goal.returns
returns c =
    let one = c.index-as_slice-index.result in
    let index = c.in-Some.index in
    let is : one ≡ get_or c.args.system.now.definitions index one = grind (arith, common_steps) in
    let times : c.in-Some-product_within.divisor ≡ one.k *ℤ c.args.k = grind (arith, common_steps, to_z-of_z) in
    let raised : c.in-Some-product_within-2.raised ≡ one.k *ℤ c.args.form.now.constant = grind (arith, common_steps, to_z-of_z) in
    let constant : c.in-Some-sum_within.constant ≡ one.constant +ℤ c.in-Some-product_within-2.raised =
    grind (arith, common_steps, to_z-of_z) in
    same_division c.args.meter.now c.args.system.now c.args.form.now
    (record { coefs = c.in_ok-coefs.coefs; constant = c.in-Some-sum_within.constant }) c.args.k c.in-Some-product_within.divisor
    c.in-Some-product_within-2.raised index one c.requires c.in-Some.ensures is times c.in-Some-product_within.ensures.1 raised
    c.in_ok-coefs.ensures constant c.in-Some-sum_within.ensures.1
