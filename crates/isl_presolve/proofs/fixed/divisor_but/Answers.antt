use Rattle.std.proofs.Common.{◌≡◌, get_or, pos, arith}
use Rattle.isl_math.specs.Divide.{IsGcdOf}
use Rattle.isl_presolve.proofs.FixedLaws.{divisor_first, divisor_next}
use Rattle.isl_presolve.proofs.fixed.divisor_but.Goals as goal

pub loop-i-init : goal.loop-i-init
loop-i-init c =
    let row = c.args.row.now in
    let same : c.modulus-common.result ≡ row.k = grind arith in
    (rw same (divisor_first row.k row.coefs c.args.but c.requires.modulus), rw same c.requires.within.k)

pub loop-i-preserved : goal.loop-i-preserved
loop-i-preserved c =
    let row = c.args.row.now in
    let i = c.loop-i.i in
    let number : c.get.result ≡ get_or row.coefs i (pos 0) = grind arith in
    let gcd : IsGcdOf c.loop-i.common (get_or row.coefs i (pos 0)) c.gcd-common.result = rw number at c.gcd-common.ensures.value in
    (divisor_next row.k row.coefs c.args.but i c.loop-i.common c.gcd-common.result c.loop-i.invariant.0 gcd, c.gcd-common.ensures.within)
