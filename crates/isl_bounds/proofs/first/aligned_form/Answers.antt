use Rattle.std.proofs.Common.{◌≡◌, ◌∙◌, ◌+ℤ◌, ◌*ℤ◌, neg_ℤ, negsuc, pos, refl, sym, ap, subst, arith, ℤ, List, length, of_z, to_z, to_z-of_z}
use Rattle.std.specs.Int.{w128}
use Rattle.std.specs.List.{All}
use Rattle.std.proofs.lemmas.Grind.{common_steps}
use Rattle.isl_math.specs.Divide.{floor_mod, Divides}
use Rattle.isl_math.specs.Dot.{dot}
use Rattle.isl_meter.specs.Gauge.{Gauge, IsWithin}
use Rattle.isl_piece.specs.Combine.{combination}
use Rattle.isl_piece.specs.Row.{value_at}
use Rattle.isl_loop.specs.Expr.{ceil_div, expr_value}
use Rattle.isl_bounds.proofs.ExprLaws.{made_over}
use Rattle.isl_bounds.proofs.FirstLaws.{beyond_wide, rest_turn, whole_turn}
use Rattle.isl_bounds.proofs.first.aligned_form.Goals as goal

pub returns-then-are_multiples : goal.returns-then-are_multiples
returns-then-are_multiples c =
    let g = c.args.meter.now in
    let low = c.args.low.now in
    let own = c.args.own.now in
    let k = c.args.k in
    let beyond = c.in_ok-beyond.beyond in
    let items = c.in_ok-summands.field-0 in
    let z = to_z w128 (of_z w128 c.get.result) in
    let minus : c.neg.result ≡ negsuc 0 = c.neg.ensures.value in
    let is : beyond ≡ combination (pos 1) low c.neg.result own = grind arith in
    let all : All (Divides k) beyond.coefs =
    subst (All (Divides k)) c.as_slice.ensures (c.are_multiples.ensures c.if-are_multiples.true) in
    let missing : c.modulo-missing.result ≡ floor_mod (neg_ℤ beyond.constant) k = grind (arith, common_steps) in
    let same : z ≡ c.in_ok-constant.constant = grind (arith, common_steps, to_z-of_z) in
    let number : z ≡ low.constant +ℤ c.modulo-missing.result = grind (arith, common_steps, to_z-of_z) in
    let before : c.combination.new.meter ≡ g = grind (arith, common_steps) in
    let meter : c.add.new.meter ≡ g = grind (arith, common_steps) in
    let within : IsWithin g z =
    subst (IsWithin g) (sym same) (subst (λ (h : Gauge). IsWithin h c.in_ok-constant.constant) before c.in_ok-constant.ensures.1) in
    let coefs : c.as_slice-then-are_multiples.result.now ≡ low.coefs = c.as_slice-then-are_multiples.ensures in
    let long : length c.as_slice-then-are_multiples.result.now ≡ length own.coefs = ap length coefs ∙ c.requires.width in (
      (
        made_over g (length own.coefs) items z
            (c.in_ok-summands.ensures.over g (length own.coefs) (subst (All (IsWithin g)) (sym coefs) c.requires.low.coefs) long) within,
        (λ point wide. whole_turn low own beyond k c.neg.result c.requires.divisor c.requires.width minus is items z c.modulo-missing.result
            point all missing number
            (c.in_ok-summands.ensures.value point (long ∙ wide) ∙ ap (λ (cs : List ℤ). dot cs point) coefs)),
      ),
      meter,
    )

pub returns : goal.returns
returns c =
    let g = c.args.meter.now in
    let low = c.args.low.now in
    let own = c.args.own.now in
    let k = c.args.k in
    let n = length own.coefs in
    let beyond = c.in_ok-beyond.beyond in
    let form = c.in_ok-form.field-0 in
    let first = c.in_ok-plus_multiple.field-0 in
    let minus : c.neg.result ≡ negsuc 0 = c.neg.ensures.value in
    let is : beyond ≡ combination (pos 1) low c.neg.result own = grind arith in
    let meter : c.combination.new.meter ≡ g = grind (arith, common_steps) in
    let j = to_z w128 (of_z w128 c.get-2.result) in
    let same : j ≡ k = grind (arith, common_steps, to_z-of_z) in
    let value : (point : List ℤ) → n ≡ length point
    → expr_value first point ≡ value_at own point +ℤ j *ℤ ceil_div (expr_value form point) j =
    c.in_ok-plus_multiple.ensures.value in
    let wide : length beyond.coefs ≡ n = beyond_wide low own beyond k c.neg.result c.requires.divisor c.requires.width minus is in (
      (
        c.in_ok-plus_multiple.ensures.over g n c.requires.own refl (c.in_ok-form.ensures.over g n c.in_ok-beyond.ensures.exact.0.1 wide)
            (subst (IsWithin g) (sym same) c.requires.within),
        (λ point long. rest_turn low own beyond k c.neg.result c.requires.divisor c.requires.width minus is first form j point same
            (c.in_ok-form.ensures.value point (wide ∙ long)) (value point long)),
      ),
      meter,
    )
