use Rattle.std.proofs.Common.{◌≡◌, refl, sym, subst, arith, pos, negsuc, neg_ℤ, Bool, true, false}
use Rattle.std.specs.List.{All}
use Rattle.std.proofs.lemmas.Grind.{common_steps}
use Rattle.isl_math.specs.Dot.{weighted_sum}
use Rattle.isl_meter.specs.Gauge.{IsWithin}
use Rattle.isl_meter.proofs.LimitLemmas.{IsWithin-small}
use Rattle.isl_piece.specs.declared.row.RowKind.TheVariants as kind
use Rattle.isl_greatest.specs.Parts.{half_of}
use Rattle.isl_greatest.proofs.PartsLaws.{half_first, half_second}
use Rattle.isl_greatest.proofs.case.half.Goals as goal

pub returns-then-not-is_negated : goal.returns-then-not-is_negated
returns-then-not-is_negated c =
    let g = c.args.meter.now in
    let row = c.args.row.now in
    let is : c.args.is_negated ≡ false = grind (arith, common_steps) in
    let made : c.new.result ≡ record { kind = kind.AtLeast; coefs = c.in_ok-coefs.coefs; constant = row.constant; k = pos 1 } = grind (arith, common_steps) in
    let h = half_first g row c.new.result c.in_ok-coefs.coefs c.in_ok-coefs.ensures made c.requires.within
    (IsWithin-small g (pos 1) c.limit-limit.ensures.bits_low (omega arith)) in
    (subst (λ (b : Bool). c.new.result ≡ half_of b row) (sym is) h.0, h.1, refl)

pub returns : goal.returns
returns c =
    let g = c.args.meter.now in
    let row = c.args.row.now in
    let is : c.args.is_negated ≡ true = grind (arith, common_steps) in
    let same : c.in_ok-coefs-2.coefs ≡ weighted_sum (negsuc 0) row.coefs (pos 0) row.coefs = grind (arith, common_steps) in
    let coefs : All (IsWithin g) c.in_ok-coefs-2.coefs = grind (arith, common_steps) in
    let number : c.neg-constant.result ≡ neg_ℤ row.constant = grind (arith, common_steps) in
    let meter : c.weighted_sum.new.meter ≡ g = grind (arith, common_steps) in
    let within : IsWithin g c.neg-constant.result = subst (λ m. IsWithin m c.neg-constant.result) meter c.neg-constant.ensures.within in
    let h = half_second g row c.new-3.result c.in_ok-coefs-2.coefs c.neg-constant.result same coefs number within c.new-3.ensures
    (IsWithin-small g (pos 1) c.limit-limit.ensures.bits_low (omega arith)) in
    (subst (λ (b : Bool). c.new-3.result ≡ half_of b row) (sym is) h.0, h.1, meter)
