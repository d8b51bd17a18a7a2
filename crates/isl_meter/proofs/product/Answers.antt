use Rattle.std.proofs.Common.{◌*ℤ◌, to_z-of_z, FitsSigned}
use Rattle.std.specs.Int.{w64, w128}
use Rattle.isl_meter.proofs.LimitLemmas.{short_product}
use Rattle.isl_meter.proofs.product.Goals as goal

pub overflow_mul-result : goal.overflow_mul-result
overflow_mul-result c =
    let a_fits = c.ranges.a in
    let b_fits = c.ranges.b in
    let a_short : FitsSigned w64 c.args.a = simp to_z-of_z at c.is_short.ensures.fits c.if-is_short.true in
    let b_short : FitsSigned w64 c.args.b = simp to_z-of_z at c.is_short-then-is_short.ensures.fits c.if-is_short-2.true in
    let fits : FitsSigned w128 (c.args.a *ℤ c.args.b) =
    short_product c.args.a c.args.b (simp to_z-of_z at c.is_short.ensures.magnitude c.if-is_short.true)
    (simp to_z-of_z at c.is_short-then-is_short.ensures.magnitude c.if-is_short-2.true) in
    simp to_z-of_z fits

pub returns-then-is_short-2 : goal.returns-then-is_short-2
returns-then-is_short-2 c =
    let a_fits = c.ranges.a in
    let b_fits = c.ranges.b in
    let a_short : FitsSigned w64 c.args.a = simp to_z-of_z at c.is_short.ensures.fits c.if-is_short.true in
    let b_short : FitsSigned w64 c.args.b = simp to_z-of_z at c.is_short-then-is_short.ensures.fits c.if-is_short-2.true in
    let fits : FitsSigned w128 (c.args.a *ℤ c.args.b) =
    short_product c.args.a c.args.b (simp to_z-of_z at c.is_short.ensures.magnitude c.if-is_short.true)
    (simp to_z-of_z at c.is_short-then-is_short.ensures.magnitude c.if-is_short-2.true) in
    (fits, simp to_z-of_z)
