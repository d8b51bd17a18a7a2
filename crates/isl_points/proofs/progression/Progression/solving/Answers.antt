use Rattle.std.proofs.Common.{◌≡◌, ◌∙◌, ap, pos, arith, ◌*ℤ◌}
use Rattle.isl_math.specs.Divide.{floor_mod}
use Rattle.isl_omega.proofs.SubstitutionLemmas.{coprime_parts}
use Rattle.isl_points.proofs.CongruenceLaws.{unsolvable, solved_is}
use Rattle.isl_points.proofs.progression.Progression.solving.Goals as goal

pub returns-then-not-is_zero : goal.returns-then-not-is_zero
returns-then-not-is_zero c =
    let parts = coprime_parts c.args.coef c.args.k c.gcd-common.result c.floor_div-step.result c.floor_div-own.result c.requires.modulus
    c.gcd-common.ensures.value c.floor_div-step.ensures.value c.floor_div-own.ensures.value in
    let none : ¬ (floor_mod c.args.rest c.gcd-common.result ≡ pos 0) = grind arith in (
      (λ x. unsolvable c.args.coef c.args.rest c.args.k c.gcd-common.result c.floor_div-step.result c.floor_div-own.result x parts none),
      grind arith,
    )

pub inverse-inverse-requires-clause-coprime : goal.inverse-inverse-requires-clause-coprime
inverse-inverse-requires-clause-coprime c =
    (coprime_parts c.args.coef c.args.k c.gcd-common.result c.floor_div-step.result c.floor_div-own.result c.requires.modulus
    c.gcd-common.ensures.value c.floor_div-step.ensures.value c.floor_div-own.ensures.value).coprime

pub returns : goal.returns
returns c =
    let parts = coprime_parts c.args.coef c.args.k c.gcd-common.result c.floor_div-step.result c.floor_div-own.result c.requires.modulus
    c.gcd-common.ensures.value c.floor_div-step.ensures.value c.floor_div-own.ensures.value in
    let none : floor_mod c.args.rest c.gcd-common.result ≡ pos 0 = grind arith in
    let beside : c.modulo-beside.result ≡ floor_mod c.floor_div.result c.floor_div-step.result = grind arith in
    let product : c.in_ok-product.product ≡ c.modulo-beside.result *ℤ c.inverse-inverse.result = grind arith in (
      (
        record { positive = parts.m_positive; first_within = grind arith; step_within = grind arith },
        (λ x. solved_is c.args.coef c.args.rest c.args.k c.gcd-common.result c.floor_div-step.result c.floor_div-own.result
            c.modulo-beside.result c.inverse-inverse.result c.in_ok-product.product c.modulo-first.result x parts none
            (beside ∙ ap (λ z. floor_mod z c.floor_div-step.result) c.floor_div.ensures.value)
            c.inverse-inverse.ensures.value product
            (c.modulo-first.ensures.value ∙ ap (λ z. floor_mod z c.floor_div-step.result) c.neg.ensures.value)),
      ),
      grind arith,
    )
