use Rattle.std.proofs.Common.{◌≡◌, ◌∙◌, ◌+◌, ◌-◌, ◌<◌, ◌≤◌, ◌<ℤ◌, ◌+ℤ◌, ◌*ℤ◌, refl, sym, ap, subst, arith, ℕ, ℤ, pos, List, [], length}
use Rattle.std.proofs.Common.{get_or, take, to_z, of_z, to_z-of_z}
use Rattle.std.specs.List.{All}
use Rattle.std.proofs.lemmas.Grind.{common_steps}
use Rattle.std.proofs.lemmas.Result.{MatchResult-weaker}
use Rattle.isl_math.specs.Divide.{floor_div}
use Rattle.isl_math.specs.Dot.{weighted_sum}
use Rattle.isl_math.proofs.ColumnLaws.{length-weighted_sum}
use Rattle.isl_meter.specs.Gauge.{Gauge, IsCutBy, IsWithin}
use Rattle.isl_piece.specs.Definition.{AreDefinitions}
use Rattle.isl_loop.specs.Expr.{expr_value}
use Rattle.isl_greatest.specs.Expressed.{IsExpressed}
use Rattle.isl_greatest.proofs.ExpressedLaws.{expressed_merged, expressed_none, expressed_quotient, expressed_zero, split_last}
use Rattle.isl_greatest.proofs.expressed.+expressed.Goals as goal

pub returns-then-count-eq0 : goal.returns-then-count-eq0
returns-then-count-eq0 t c =
    let g = c.args.meter.now in
    let n = c.args.front in
    let ds = c.args.definitions.now in
    let coefs = c.args.coefs.now in
    let none : ds ≡ [] = grind (arith, common_steps) in
    let wide = c.requires.count in
    let few = ap length none in
    let low : length coefs ≤ n = omega (arith, wide, few) in
    let plain = c.in_ok-plain.ensures in (
      expressed_none g n ds coefs c.args.constant c.in_ok-plain.plain none wide (plain.over g n c.requires.coefs c.requires.constant low) plain.value,
      refl,
    )

pub expressed-requires : goal.expressed-requires
expressed-requires t c =
    let g = c.args.meter.now in
    let n = c.args.front in
    let ds = c.args.definitions.now in
    let coefs = c.args.coefs.now in
    let last = length ds - 1 in
    let d = c.index-definitions-last.result in
    let coef = c.index-coefs-at.result in
    let many : length ds ≡ last + 1 = grind (arith, common_steps) in
    let wide = c.requires.count in
    let is_d = c.index-definitions-last.is in
    let is_coef = c.index-coefs-at.is in
    let split = split_last g n last ds coefs d coef many wide is_d is_coef c.requires.definitions c.requires.coefs in
    ((let falls = split.shorter in omega (arith, c.decreases, falls)), (split.sound, (split.width, (split.within, c.requires.constant))))

pub weighted_sum-requires : goal.weighted_sum-requires
weighted_sum-requires t c =
    let g = c.args.meter.now in
    let n = c.args.front in
    let ds = c.args.definitions.now in
    let coefs = c.args.coefs.now in
    let last = length ds - 1 in
    let d = c.index-definitions-last.result in
    let coef = c.index-coefs-at.result in
    let many : length ds ≡ last + 1 = grind (arith, common_steps) in
    let wide = c.requires.count in
    let is_d = c.index-definitions-last.is in
    let is_coef = c.index-coefs-at.is in
    let split = split_last g n last ds coefs d coef many wide is_d is_coef c.requires.definitions c.requires.coefs in
    let inner = c.as_slice-inner.ensures in
    record {
      left_within = split.within;
      right_within = subst (All (IsWithin g)) (sym inner) split.own.coefs;
      same_length = split.width ∙ sym (ap length inner ∙ split.inner);
    }

pub sum_of-requires : goal.sum_of-requires
sum_of-requires t c =
    let g = c.args.meter.now in
    let n = c.args.front in
    let ds = c.args.definitions.now in
    let coefs = c.args.coefs.now in
    let last = length ds - 1 in
    let d = c.index-definitions-last.result in
    let coef = c.index-coefs-at.result in
    let many : length ds ≡ last + 1 = grind (arith, common_steps) in
    let wide = c.requires.count in
    let is_d = c.index-definitions-last.is in
    let is_coef = c.index-coefs-at.is in
    let split = split_last g n last ds coefs d coef many wide is_d is_coef c.requires.definitions c.requires.coefs in
    let same = sym c.in_ok-merged.ensures.exact.1 in
    let own : c.new-own.result ≡ d.constant = grind (arith, common_steps, to_z-of_z) in
    record {
      left_within = subst (λ (m : Gauge). IsWithin m c.args.constant) same c.requires.constant;
      right_within = subst (λ (m : Gauge). IsWithin m c.new-own.result) same (subst (IsWithin g) (sym own) split.own.constant);
    }

pub expressed-requires-then-k-eq1 : goal.expressed-requires-then-k-eq1
expressed-requires-then-k-eq1 t c =
    let g = c.args.meter.now in
    let n = c.args.front in
    let ds = c.args.definitions.now in
    let coefs = c.args.coefs.now in
    let last = length ds - 1 in
    let d = c.index-definitions-last.result in
    let coef = c.index-coefs-at.result in
    let many : length ds ≡ last + 1 = grind (arith, common_steps) in
    let wide = c.requires.count in
    let is_d = c.index-definitions-last.is in
    let is_coef = c.index-coefs-at.is in
    let split = split_last g n last ds coefs d coef many wide is_d is_coef c.requires.definitions c.requires.coefs in
    let inner = c.as_slice-inner.ensures in
    let merged = c.in_ok-merged.ensures.exact in
    let sum = c.in_ok-sum.ensures.exact in
    let first = merged.1 in
    let same = sum.2 ∙ first in
    let level : length (take (n + last) coefs) ≡ length c.as_slice-inner.result.now = split.width ∙ sym (ap length inner ∙ split.inner) in (
      (let falls = split.shorter in omega (arith, c.decreases, falls)),
      (
        subst (λ (m : Gauge). AreDefinitions m n (take last ds)) (sym same) split.sound,
        (
          ap length (c.as_slice-narrow.ensures ∙ merged.0.0)
              ∙ length-weighted_sum (pos 1) (take (n + last) coefs) coef c.as_slice-inner.result.now level ∙ split.width,
          (
            subst (λ (m : Gauge). All (IsWithin m) c.as_slice-narrow.result.now) (sym same)
                (subst (All (IsWithin g)) (sym c.as_slice-narrow.ensures) merged.0.1),
            subst (λ (m : Gauge). IsWithin m c.in_ok-sum.sum) (sym sum.2) sum.1,
          ),
        ),
      ),
    )

pub expressed-requires-2 : goal.expressed-requires-2
expressed-requires-2 t c =
    let g = c.args.meter.now in
    let n = c.args.front in
    let ds = c.args.definitions.now in
    let coefs = c.args.coefs.now in
    let last = length ds - 1 in
    let d = c.index-definitions-last.result in
    let coef = c.index-coefs-at.result in
    let many : length ds ≡ last + 1 = grind (arith, common_steps) in
    let wide = c.requires.count in
    let is_d = c.index-definitions-last.is in
    let is_coef = c.index-coefs-at.is in
    let split = split_last g n last ds coefs d coef many wide is_d is_coef c.requires.definitions c.requires.coefs in
    let inner = c.as_slice-inner.ensures in
    let own : c.new-own.result ≡ d.constant = grind (arith, common_steps, to_z-of_z) in (
      (let falls = split.shorter in omega (arith, c.decreases, falls)),
      (
        split.sound,
        (
          ap length inner ∙ split.inner,
          (subst (All (IsWithin g)) (sym inner) split.own.coefs, subst (IsWithin g) (sym own) split.own.constant),
        ),
      ),
    )

pub expressed-requires-3 : goal.expressed-requires-3
expressed-requires-3 t c =
    let g = c.args.meter.now in
    let n = c.args.front in
    let ds = c.args.definitions.now in
    let coefs = c.args.coefs.now in
    let last = length ds - 1 in
    let d = c.index-definitions-last.result in
    let coef = c.index-coefs-at.result in
    let many : length ds ≡ last + 1 = grind (arith, common_steps) in
    let wide = c.requires.count in
    let is_d = c.index-definitions-last.is in
    let is_coef = c.index-coefs-at.is in
    let split = split_last g n last ds coefs d coef many wide is_d is_coef c.requires.definitions c.requires.coefs in
    let same = sym c.in_ok-dividend.ensures.1 in (
      (let falls = split.shorter in omega (arith, c.decreases, falls)),
      (
        subst (λ (m : Gauge). AreDefinitions m n (take last ds)) same split.sound,
        (
          split.width,
          (
            subst (λ (m : Gauge). All (IsWithin m) (take (n + last) coefs)) same split.within,
            subst (λ (m : Gauge). IsWithin m c.args.constant) same c.requires.constant,
          ),
        ),
      ),
    )

pub with_quotient-requires : goal.with_quotient-requires
with_quotient-requires t c =
    let g = c.args.meter.now in
    let n = c.args.front in
    let ds = c.args.definitions.now in
    let coefs = c.args.coefs.now in
    let last = length ds - 1 in
    let d = c.index-definitions-last.result in
    let coef = c.index-coefs-at.result in
    let many : length ds ≡ last + 1 = grind (arith, common_steps) in
    let wide = c.requires.count in
    let is_d = c.index-definitions-last.is in
    let is_coef = c.index-coefs-at.is in
    let split = split_last g n last ds coefs d coef many wide is_d is_coef c.requires.definitions c.requires.coefs in
    let k : c.new-divisor.result ≡ d.k = grind (arith, common_steps, to_z-of_z) in
    subst (λ (z : ℤ). pos 0 <ℤ z) (sym k) split.own.modulus

pub returns-then-is_zero : goal.returns-then-is_zero
returns-then-is_zero t c =
    let g = c.args.meter.now in
    let n = c.args.front in
    let ds = c.args.definitions.now in
    let coefs = c.args.coefs.now in
    let last = length ds - 1 in
    let d = c.index-definitions-last.result in
    let coef = c.index-coefs-at.result in
    let many : length ds ≡ last + 1 = grind (arith, common_steps) in
    let wide = c.requires.count in
    let is_d = c.index-definitions-last.is in
    let is_coef = c.index-coefs-at.is in
    let split = split_last g n last ds coefs d coef many wide is_d is_coef c.requires.definitions c.requires.coefs in
    MatchResult-weaker c.expressed.result c.expressed.ensures
    (λ e told. (
      expressed_zero g n last ds coefs d coef c.args.constant many wide is_d is_coef e (c.is_zero.ensures.0 c.if-is_zero.true) told.0,
      told.1,
    ))
    (λ cut told. told)

pub returns-then-k-eq1 : goal.returns-then-k-eq1
returns-then-k-eq1 t c =
    let g = c.args.meter.now in
    let n = c.args.front in
    let ds = c.args.definitions.now in
    let coefs = c.args.coefs.now in
    let last = length ds - 1 in
    let d = c.index-definitions-last.result in
    let coef = c.index-coefs-at.result in
    let many : length ds ≡ last + 1 = grind (arith, common_steps) in
    let wide = c.requires.count in
    let is_d = c.index-definitions-last.is in
    let is_coef = c.index-coefs-at.is in
    let split = split_last g n last ds coefs d coef many wide is_d is_coef c.requires.definitions c.requires.coefs in
    let inner = c.as_slice-inner.ensures in
    let own : c.new-own.result ≡ d.constant = grind (arith, common_steps, to_z-of_z) in
    let unit : d.k ≡ pos 1 = grind (arith, common_steps, to_z-of_z) in
    let merged = c.in_ok-merged.ensures.exact in
    let sum = c.in_ok-sum.ensures.exact in
    let same = sum.2 ∙ merged.1 in
    let narrow = c.as_slice-narrow.result.now in
    let is = c.as_slice-narrow.ensures ∙ merged.0.0 ∙ ap (λ (l : List ℤ). weighted_sum (pos 1) (take (n + last) coefs) coef l) inner in
    let more = sum.0 ∙ ap (λ (z : ℤ). pos 1 *ℤ c.args.constant +ℤ coef *ℤ z) own in
    MatchResult-weaker c.expressed-then-k-eq1.result c.expressed-then-k-eq1.ensures
    (λ e told. (
      expressed_merged g n last ds coefs d coef c.args.constant many wide is_d is_coef e narrow c.in_ok-sum.sum split.own unit is more
          (subst (λ (m : Gauge). IsExpressed m n (take last ds) narrow c.in_ok-sum.sum e) same told.0),
      told.1 ∙ same,
    ))
    (λ cut told. subst (λ (m : Gauge). IsCutBy m c.expressed-then-k-eq1.new.meter cut) same told)

pub returns : goal.returns
returns t c =
    let g = c.args.meter.now in
    let n = c.args.front in
    let ds = c.args.definitions.now in
    let coefs = c.args.coefs.now in
    let last = length ds - 1 in
    let d = c.index-definitions-last.result in
    let coef = c.index-coefs-at.result in
    let many : length ds ≡ last + 1 = grind (arith, common_steps) in
    let wide = c.requires.count in
    let is_d = c.index-definitions-last.is in
    let is_coef = c.index-coefs-at.is in
    let split = split_last g n last ds coefs d coef many wide is_d is_coef c.requires.definitions c.requires.coefs in
    let inner = c.as_slice-inner.ensures in
    let own : c.new-own.result ≡ d.constant = grind (arith, common_steps, to_z-of_z) in
    let k : c.new-divisor.result ≡ d.k = grind (arith, common_steps, to_z-of_z) in
    let same = c.in_ok-dividend.ensures.1 in
    let inside = c.in_ok-dividend.dividend in
    let outside = c.in_ok-rest.rest in
    let dividend = subst (λ (z : ℤ). IsExpressed g n (take last ds) d.coefs z inside) own
    (subst (λ (l : List ℤ). IsExpressed g n (take last ds) l c.new-own.result inside) inner c.in_ok-dividend.ensures.0) in
    let rest = subst (λ (m : Gauge). IsExpressed m n (take last ds) (take (n + last) coefs) c.args.constant outside) same c.in_ok-rest.ensures.0 in
    let whole = c.in_ok-whole.ensures in (
      expressed_quotient g n last ds coefs d coef c.args.constant many wide is_d is_coef inside outside c.in_ok-whole.whole dividend rest
          (whole.over g n rest.over split.small dividend.over (subst (IsWithin g) (sym k) split.own.k))
          (λ v. whole.value v ∙ ap (λ (z : ℤ). expr_value outside v +ℤ coef *ℤ floor_div (expr_value inside v) z) k),
      c.in_ok-rest.ensures.1 ∙ same,
    )
