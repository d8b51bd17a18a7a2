use Rattle.isl_omega.proofs.SubstitutionLemmas.{coprime_parts, progression_parts}
use Rattle.isl_omega.proofs.substitution.parts.Goals as goal

pub inverse-factor-requires-clause-divisor : goal.inverse-factor-requires-clause-divisor
inverse-factor-requires-clause-divisor c =
    (coprime_parts c.args.coef c.args.k c.gcd-scale.result c.floor_div-m.result c.floor_div-n.result c.requires.modulus c.gcd-scale.ensures.value c.floor_div-m.ensures.value c.floor_div-n.ensures.value).m_positive

pub inverse-factor-requires-clause-coprime : goal.inverse-factor-requires-clause-coprime
inverse-factor-requires-clause-coprime c =
    (coprime_parts c.args.coef c.args.k c.gcd-scale.result c.floor_div-m.result c.floor_div-n.result c.requires.modulus c.gcd-scale.ensures.value c.floor_div-m.ensures.value c.floor_div-n.ensures.value).coprime

pub returns-clause-are : goal.returns-clause-are
returns-clause-are c =
    progression_parts c.args.coef c.args.k c.gcd-scale.result c.floor_div-m.result c.floor_div-n.result c.inverse-factor.result c.neg.result
    (coprime_parts c.args.coef c.args.k c.gcd-scale.result c.floor_div-m.result c.floor_div-n.result c.requires.modulus c.gcd-scale.ensures.value c.floor_div-m.ensures.value c.floor_div-n.ensures.value)
    c.inverse-factor.ensures.value c.neg.ensures.value
