use Rattle.std.proofs.Common.{◌≡◌, ◌-ℤ◌, ◌<ℤ◌, pos, arith}
use Rattle.std.specs.Prelude.{Some}
use Rattle.isl_math.specs.Divide.{IsGcdOf}
use Rattle.isl_piece.specs.Row.{coef_at}
use Rattle.isl_presolve.proofs.FixedLaws.{number_found}
use Rattle.isl_presolve.proofs.fixed.number_left.Goals as goal

pub first_from-requires-clause-coprime : goal.first_from-requires-clause-coprime
first_from-requires-clause-coprime c =
    let is : c.gcd.result ≡ pos 1 = grind arith in
    rw is at c.gcd.ensures.value

pub returns : goal.returns
returns c =
    let row = c.args.row.now in
    let col = c.args.col in
    let range = c.args.range in
    let g = c.divisor_but-divisor.result in
    let l = c.in_ok-least.least in
    let u = c.in_ok-greatest.greatest in
    let is : c.gcd.result ≡ pos 1 = grind arith in
    let number : c.get-number.result ≡ coef_at row col = grind arith in
    let constant : c.constant.result ≡ row.constant = grind arith in
    let one : IsGcdOf (coef_at row col) g (pos 1) = rw (number, is) at c.gcd.ensures.value in
    let least : range.least ≡ Some l = grind arith in
    let greatest : range.greatest ≡ Some u = grind arith in
    let made : c.in_ok-width.width ≡ u -ℤ l = grind arith in
    let below : c.in_ok-width.width <ℤ g = grind arith in
    let width : (u -ℤ l) <ℤ g = rw made at below in
    let first = rw (number, constant) at c.first_from.ensures in
    number_found row col range g l u c.first_from.result c.requires.kind c.divisor_but-divisor.ensures.modulus
    c.divisor_but-divisor.ensures.others one least greatest width first.least first.next first.divided
