use Rattle.std.proofs.Common.{◌≡◌, ◌∙◌, ◌+◌, ◌<ℤ◌, ◌+ℤ◌, ◌-ℤ◌, ◌*ℤ◌, refl, sym, ap, subst, arith, ℤ, pos, neg_ℤ, List, length}
use Rattle.std.specs.List.{All}
use Rattle.std.proofs.lemmas.Grind.{common_steps}
use Rattle.isl_math.specs.Divide.{floor_div}
use Rattle.isl_meter.specs.Gauge.{Gauge, IsWithin}
use Rattle.isl_piece.specs.Definition.{AreDefinitions}
use Rattle.isl_piece.specs.Row.{HasModulus}
use Rattle.isl_loop.specs.Expr.{expr_value}
use Rattle.isl_greatest.specs.Expressed.{IsExpressed}
use Rattle.isl_greatest.proofs.ExpressedLaws.{test_no_multiple}
use Rattle.isl_greatest.proofs.expressed.no_multiple_test.Goals as goal

pub expressed-requires : goal.expressed-requires
expressed-requires c =
    let g = c.args.meter.now in
    let slice = c.as_slice-coefs.ensures in
    record {
      definitions = c.requires.definitions;
      count = ap length slice ∙ c.requires.formed.width;
      coefs = subst (All (IsWithin g)) (sym slice) c.requires.within.coefs;
      constant = subst (IsWithin g) (sym c.constant-own.ensures) c.requires.within.constant;
    }

pub expressed-requires-2 : goal.expressed-requires-2
expressed-requires-2 c =
    let g = c.args.meter.now in
    let h = c.sub.new.meter in
    let n = c.args.front in
    let slice = c.as_slice-coefs.ensures in
    let same : h ≡ g = c.in_ok-constant.ensures.2 ∙ c.in_ok-form.ensures.1 in
    record {
      definitions = subst (λ (m : Gauge). AreDefinitions m n c.args.definitions.now) (sym same) c.requires.definitions;
      count = ap length slice ∙ c.requires.formed.width;
      coefs = subst (λ (m : Gauge). All (IsWithin m) c.as_slice-coefs.result.now) (sym same)
          (subst (All (IsWithin g)) (sym slice) c.requires.within.coefs);
      constant = subst (λ (m : Gauge). IsWithin m c.in_ok-constant.constant) (sym c.in_ok-constant.ensures.2) c.in_ok-constant.ensures.1;
    }

pub neg-times-requires : goal.neg-times-requires
neg-times-requires c =
    let g = c.args.meter.now in
    let same : c.expressed-2.new.meter ≡ g = c.in_ok-rest.ensures.1 ∙ c.in_ok-constant.ensures.2 ∙ c.in_ok-form.ensures.1 in
    subst (λ (m : Gauge). IsWithin m c.modulus-k.result) (sym same) (subst (IsWithin g) (sym c.modulus-k.ensures) c.requires.within.k)

pub with_quotient-requires : goal.with_quotient-requires
with_quotient-requires c =
    let up : pos 0 <ℤ c.args.row.now.k = subst (λ k. HasModulus k c.args.row.now.k) c.requires.kind c.requires.formed.modulus in
    subst (λ (z : ℤ). pos 0 <ℤ z) (sym c.modulus-k.ensures) up

pub returns : goal.returns
returns c =
    let g = c.args.meter.now in
    let n = c.args.front in
    let ds = c.args.definitions.now in
    let r = c.args.row.now in
    let slice = c.as_slice-coefs.ensures in
    let same : c.sub.new.meter ≡ g = c.in_ok-constant.ensures.2 ∙ c.in_ok-form.ensures.1 in
    let last : c.expressed-2.new.meter ≡ g = c.in_ok-rest.ensures.1 ∙ same in
    let up : pos 0 <ℤ r.k = subst (λ k. HasModulus k r.k) c.requires.kind c.requires.formed.modulus in
    let constant : c.in_ok-constant.constant ≡ r.constant -ℤ pos 1 =
    c.in_ok-constant.ensures.0 ∙ ap (λ z. z -ℤ pos 1) c.constant-own.ensures in
    let form : IsExpressed g n ds r.coefs r.constant c.in_ok-form.form =
    subst (λ (z : ℤ). IsExpressed g n ds r.coefs z c.in_ok-form.form) c.constant-own.ensures
    (subst (λ (l : List ℤ). IsExpressed g n ds l c.constant-own.result c.in_ok-form.form) slice c.in_ok-form.ensures.0) in
    let rest : IsExpressed g n ds r.coefs c.in_ok-constant.constant c.in_ok-rest.rest =
    subst (λ (l : List ℤ). IsExpressed g n ds l c.in_ok-constant.constant c.in_ok-rest.rest) slice
    (subst (λ (m : Gauge). IsExpressed m n ds c.as_slice-coefs.result.now c.in_ok-constant.constant c.in_ok-rest.rest) same c.in_ok-rest.ensures.0) in
    let k = c.modulus-k.ensures in
    let times : c.neg-times.result ≡ neg_ℤ r.k = c.neg-times.ensures.value ∙ ap neg_ℤ k in
    let within : IsWithin g c.modulus-k.result = subst (IsWithin g) (sym k) c.requires.within.k in
    let times_within : IsWithin g c.neg-times.result = subst (λ (m : Gauge). IsWithin m c.neg-times.result) last c.neg-times.ensures.within in (
      test_no_multiple g n ds r c.in_ok-form.form c.in_ok-rest.rest c.in_ok-test.test c.in_ok-constant.constant c.neg-times.result c.requires.kind up
          constant times form rest (c.in_ok-test.ensures.over g n rest.over times_within form.over within)
          (λ v. c.in_ok-test.ensures.value v
          ∙ ap (λ z. expr_value c.in_ok-rest.rest v +ℤ c.neg-times.result *ℤ floor_div (expr_value c.in_ok-form.form v) z) k),
      last,
    )
