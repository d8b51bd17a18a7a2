use Rattle.std.proofs.Common.{◌≡◌, ◌+ℤ◌, ◌-ℤ◌, ◌*ℤ◌, pos, refl, arith, rules}
use Rattle.std.specs.Prelude.{IfSome}
use Rattle.isl_math.specs.Divide.{Divides, floor_div}
use Rattle.isl_presolve.proofs.FixedLaws.{first_divided, if_some_is}
use Rattle.isl_presolve.proofs.fixed.first_from.Goals as goal

pub returns-clause-divided : goal.returns-clause-divided
returns-clause-divided c =
    let g = c.args.divisor in
    let t = c.args.constant in
    let l = c.args.least in
    let inverse = c.inverse-inverse.result in
    let rest = c.modulo-rest.result in
    let p = c.in_ok-product.product in
    let s = c.in_ok-beyond.beyond in
    let z = c.in_ok-back.back in
    let offset = c.modulo-offset.result in
    let first : p ≡ rest *ℤ inverse = grind arith in
    let second : s ≡ p +ℤ l = grind arith in
    let third : z ≡ pos 0 -ℤ s = grind arith in
    let last : IfSome c.ok-4.result (λ v. v ≡ l +ℤ offset) = search rules in
    let divided = first_divided g c.args.number t l (l +ℤ offset) z p s inverse rest offset (floor_div t g) (floor_div z g)
    c.inverse-inverse.ensures.value c.modulo-rest.ensures.rest first second third c.modulo-offset.ensures.rest refl in
    if_some_is c.ok-4.result (l +ℤ offset) (λ v. Divides g (c.args.number *ℤ v +ℤ t)) last divided
