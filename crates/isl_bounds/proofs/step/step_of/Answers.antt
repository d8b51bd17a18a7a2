use Rattle.std.proofs.Common.{◌≡◌, ◌≢◌, ◌*ℤ◌, ◌∙◌, ◌++◌, ◌∷◌, [], refl, sym, subst, arith, pos}
use Rattle.std.proofs.lemmas.Grind.{common_steps}
use Rattle.std.proofs.lemmas.Bool.{false≢true}
use Rattle.isl_math.specs.Divide.{IsCongruent, IsGcdOf, IsInverse}
use Rattle.isl_math.proofs.DivideLaws.{gcd_unique}
use Rattle.isl_meter.specs.Gauge.{Gauge, IsWithin}
use Rattle.isl_meter.proofs.LimitLemmas.{IsWithin-small}
use Rattle.isl_piece.specs.declared.row.RowKind.TheVariants.{Divides}
use Rattle.isl_piece.specs.Row.{coef_at}
use Rattle.isl_bounds.proofs.StepLaws.{step_is}
use Rattle.isl_bounds.proofs.step.step_of.Goals as goal

pub returns-then-ne : goal.returns-then-ne
returns-then-ne c =
    let row = c.args.row.now in
    let last = c.get-last.ensures in
    let modulus = c.modulus-k.ensures in
    let other : c.gcd.result ≢ pos 1 = grind (arith, common_steps) in
    let is : IsGcdOf (coef_at row c.args.variables) row.k c.gcd.result = rw (last, modulus) at c.gcd.ensures.value in
    ((tt, (λ none one. other (gcd_unique (coef_at row c.args.variables) row.k c.gcd.result (pos 1) is one))), refl)

pub inverse-by-requires-clause-coprime : goal.inverse-by-requires-clause-coprime
inverse-by-requires-clause-coprime c =
    let one : c.gcd.result ≡ pos 1 = grind (arith, common_steps) in
    rw one at c.gcd.ensures.value

pub returns : goal.returns
returns c =
    let row = c.args.row.now in
    let g = c.args.meter.now in
    let last = c.get-last.ensures in
    let modulus = c.modulus-k.ensures in
    let one : c.gcd.result ≡ pos 1 = grind (arith, common_steps) in
    let coprime : IsGcdOf (coef_at row c.args.variables) row.k (pos 1) = rw (one, last, modulus) at c.gcd.ensures.value in
    let inverse : IsInverse (coef_at row c.args.variables) row.k c.inverse-by.result = rw (last, modulus) at c.inverse-by.ensures.value in
    let coefs = c.in_ok-coefs.ensures in
    let constant = c.in_ok-constant.ensures in
    let meter : c.coefs_modulo.new.meter ≡ g = coefs.1 in
    let own = c.constant.ensures in
    let near : IsCongruent row.k c.in_ok-constant.constant (c.inverse-by.result *ℤ row.constant) = rw (own, modulus) at constant.0 in
    let within : IsWithin g c.in_ok-constant.constant = subst (λ (h : Gauge). IsWithin h c.in_ok-constant.constant) meter constant.1 in
    let made : c.new.result ≡ record {
      kind = Divides;
      coefs = c.in_ok-coefs.coefs ++ pos 1 ∷ [];
      constant = c.in_ok-constant.constant;
      k
          = row.k;
    } =
    grind (arith, common_steps) in (
      (
        step_is g c.args.variables row c.requires.row c.requires.kind c.requires.within coprime c.inverse-by.result inverse
            c.in_ok-coefs.coefs coefs.0.0 coefs.0.1 (IsWithin-small g (pos 1) c.limit-limit.ensures.bits_low (omega arith))
            c.in_ok-constant.constant near within c.new.result made,
        (λ e. absurd (false≢true (sym e))),
      ),
      constant.2 ∙ meter,
    )
