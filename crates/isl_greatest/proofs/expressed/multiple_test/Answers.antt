use Rattle.std.proofs.Common.{◌≡◌, ◌∙◌, ◌+◌, ◌<ℤ◌, ◌+ℤ◌, ◌*ℤ◌, refl, sym, ap, subst, arith, ℤ, pos, negsuc, neg_ℤ, List, length}
use Rattle.std.specs.List.{All}
use Rattle.std.proofs.lemmas.Grind.{common_steps}
use Rattle.isl_math.specs.Divide.{floor_div}
use Rattle.isl_math.specs.Dot.{weighted_sum}
use Rattle.isl_math.proofs.ColumnLaws.{length-weighted_sum}
use Rattle.isl_meter.specs.Gauge.{Gauge, IsWithin}
use Rattle.isl_piece.specs.Definition.{AreDefinitions}
use Rattle.isl_piece.specs.Row.{HasModulus}
use Rattle.isl_loop.specs.Expr.{expr_value}
use Rattle.isl_greatest.specs.Expressed.{IsExpressed}
use Rattle.isl_greatest.proofs.ExpressedLaws.{test_multiple}
use Rattle.isl_greatest.proofs.expressed.multiple_test.Goals as goal

pub expressed-requires : goal.expressed-requires
expressed-requires c =
    let g = c.args.meter.now in
    let slice = c.as_slice-coefs.ensures in
    record {
      definitions = c.requires.definitions;
      count = ap length slice ∙ c.requires.formed.width;
      coefs = subst (All (IsWithin g)) (sym slice) c.requires.within.coefs;
      constant = subst (IsWithin g) (sym c.constant-own.ensures) c.requires.within.constant;
    }

pub weighted_sum-requires : goal.weighted_sum-requires
weighted_sum-requires c =
    let g = c.args.meter.now in
    let slice = c.as_slice-coefs.ensures in
    let all = subst (λ (m : Gauge). All (IsWithin m) c.as_slice-coefs.result.now) (sym c.in_ok-form.ensures.1)
    (subst (All (IsWithin g)) (sym slice) c.requires.within.coefs) in
    record { left_within = all; right_within = all; same_length = refl }

pub neg-constant-requires : goal.neg-constant-requires
neg-constant-requires c =
    let g = c.args.meter.now in
    let h = c.weighted_sum.new.meter in
    let same : h ≡ g = c.in_ok-opposite.ensures.exact.1 ∙ c.in_ok-form.ensures.1 in
    subst (λ (m : Gauge). IsWithin m c.constant-own.result) (sym same) (subst (IsWithin g) (sym c.constant-own.ensures) c.requires.within.constant)

pub expressed-requires-2 : goal.expressed-requires-2
expressed-requires-2 c =
    let g = c.args.meter.now in
    let h = c.weighted_sum.new.meter in
    let n = c.args.front in
    let r = c.args.row.now in
    let slice = c.as_slice-coefs.ensures in
    let first : c.expressed.new.meter ≡ g = c.in_ok-form.ensures.1 in
    let made : c.in_ok-opposite.opposite ≡ weighted_sum (negsuc 0) c.as_slice-coefs.result.now (pos 0) c.as_slice-coefs.result.now =
    grind (arith, common_steps) in
    let kept : h ≡ c.expressed.new.meter = c.in_ok-opposite.ensures.exact.1 in
    let all : All (IsWithin c.expressed.new.meter) c.in_ok-opposite.opposite = c.in_ok-opposite.ensures.exact.0.1 in
    record {
      definitions = subst (λ (m : Gauge). AreDefinitions m n c.args.definitions.now) (sym (kept ∙ first)) c.requires.definitions;
      count = ap length (c.as_slice-negated.ensures ∙ made)
          ∙ length-weighted_sum (negsuc 0) c.as_slice-coefs.result.now (pos 0) c.as_slice-coefs.result.now refl
          ∙ ap length slice ∙ c.requires.formed.width;
      coefs = subst (All (IsWithin h)) (sym c.as_slice-negated.ensures)
          (subst (λ (m : Gauge). All (IsWithin m) c.in_ok-opposite.opposite) (sym kept) all);
      constant = c.neg-constant.ensures.within;
    }

pub with_quotient-requires : goal.with_quotient-requires
with_quotient-requires c =
    let up : pos 0 <ℤ c.args.row.now.k = subst (λ k. HasModulus k c.args.row.now.k) c.requires.kind c.requires.formed.modulus in
    subst (λ (z : ℤ). pos 0 <ℤ z) (sym c.modulus-k.ensures) up

pub returns : goal.returns
returns c =
    let g = c.args.meter.now in
    let h = c.weighted_sum.new.meter in
    let n = c.args.front in
    let ds = c.args.definitions.now in
    let r = c.args.row.now in
    let slice = c.as_slice-coefs.ensures in
    let first : c.expressed.new.meter ≡ g = c.in_ok-form.ensures.1 in
    let kept : h ≡ c.expressed.new.meter = c.in_ok-opposite.ensures.exact.1 in
    let same : h ≡ g = kept ∙ first in
    let made : c.in_ok-opposite.opposite ≡ weighted_sum (negsuc 0) c.as_slice-coefs.result.now (pos 0) c.as_slice-coefs.result.now =
    grind (arith, common_steps) in
    let opposite : c.as_slice-negated.result.now ≡ weighted_sum (negsuc 0) r.coefs (pos 0) r.coefs =
    c.as_slice-negated.ensures ∙ made ∙ ap (λ (l : List ℤ). weighted_sum (negsuc 0) l (pos 0) l) slice in
    let up : pos 0 <ℤ r.k = subst (λ k. HasModulus k r.k) c.requires.kind c.requires.formed.modulus in
    let constant : c.neg-constant.result ≡ neg_ℤ r.constant = c.neg-constant.ensures.value ∙ ap neg_ℤ c.constant-own.ensures in
    let form : IsExpressed g n ds r.coefs r.constant c.in_ok-form.form =
    subst (λ (z : ℤ). IsExpressed g n ds r.coefs z c.in_ok-form.form) c.constant-own.ensures
    (subst (λ (l : List ℤ). IsExpressed g n ds l c.constant-own.result c.in_ok-form.form) slice c.in_ok-form.ensures.0) in
    let rest : IsExpressed g n ds c.as_slice-negated.result.now c.neg-constant.result c.in_ok-rest.rest =
    subst (λ (m : Gauge). IsExpressed m n ds c.as_slice-negated.result.now c.neg-constant.result c.in_ok-rest.rest) same c.in_ok-rest.ensures.0 in
    let k = c.modulus-k.ensures in
    let within : IsWithin g c.modulus-k.result = subst (IsWithin g) (sym k) c.requires.within.k in (
      test_multiple g n ds r c.in_ok-form.form c.in_ok-rest.rest c.in_ok-test.test c.as_slice-negated.result.now c.neg-constant.result c.requires.kind up
          opposite constant form rest (c.in_ok-test.ensures.over g n rest.over within form.over within)
          (λ v. c.in_ok-test.ensures.value v
          ∙ ap (λ z. expr_value c.in_ok-rest.rest v +ℤ z *ℤ floor_div (expr_value c.in_ok-form.form v) z) k),
      c.in_ok-rest.ensures.1 ∙ same,
    )
