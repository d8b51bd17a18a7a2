use Rattle.std.proofs.Common.{◌≡◌, arith}
use Rattle.isl_math.specs.Gcd.{gcd_of}
use Rattle.isl_math.proofs.GcdLaws.{gcd_of-from_IsGcdOf}
use Rattle.isl_omega.proofs.EqualityLemmas.{AreFactors-from_gcd}
use Rattle.isl_omega.proofs.equality.factors.Goals as goal

pub returns-clause-first : goal.returns-clause-first
returns-clause-first c =
    let d : c.gcd-modulus.result ≡ gcd_of c.args.pivot c.args.own = gcd_of-from_IsGcdOf c.args.pivot c.args.own c.gcd-modulus.result c.gcd-modulus.ensures.value in
    grind arith

pub returns-clause-second : goal.returns-clause-second
returns-clause-second c =
    let d : c.gcd-modulus.result ≡ gcd_of c.args.pivot c.args.own = gcd_of-from_IsGcdOf c.args.pivot c.args.own c.gcd-modulus.result c.gcd-modulus.ensures.value in
    grind arith

pub returns-clause-cancel : goal.returns-clause-cancel
returns-clause-cancel c =
    AreFactors-from_gcd c.args.pivot c.args.own c.gcd-modulus.result c.floor_div-m.result c.floor_div-n.result c.neg.result
    c.requires.occurs c.gcd-modulus.ensures.value (grind arith) (grind arith) c.neg.ensures.value
