use Rattle.std.proofs.Common.{◌≡◌, ◌∙◌, ◌<◌, ◌≤◌, ◌<ℤ◌, refl, sym, arith, pos, length, subst}
use Rattle.std.proofs.lemmas.Grind.{common_steps}
use Rattle.isl_math.specs.Divide.{floor_mod}
use Rattle.isl_math.proofs.DivideLaws.{Divides-from_mod, Divides_self}
use Rattle.isl_meter.proofs.LimitLemmas.{IsWithin-small}
use Rattle.isl_piece.specs.Row.{HasModulus}
use Rattle.isl_greatest_law.specs.Case.{IsCongruence}
use Rattle.isl_greatest.proofs.PartsLaws.{congruence_positive, period_all, period_first, period_more, period_product}
use Rattle.isl_greatest.proofs.case.period_of.Goals as goal

pub loop-row-init : goal.loop-row-init
loop-row-init c = (period_first c.args.rows.now, IsWithin-small c.args.meter.now (pos 1) c.limit-limit.ensures.bits_low (omega arith), refl)

pub loop-row-preserved-then-not-is_congruence : goal.loop-row-preserved-then-not-is_congruence
loop-row-preserved-then-not-is_congruence c =
    let rows = c.args.rows.now in
    let i = c.loop-row.row-index in
    let r = c.row-item.result in
    let inside : i < length rows = omega arith in
    let not_one : ¬ IsCongruence r = grind (arith, common_steps) in (
      period_more rows i r c.loop-row.period c.loop-row.period inside c.row-item.is c.loop-row.invariant.0 c.loop-row.invariant.0.positive
          (Divides_self c.loop-row.period) (λ congruence. absurd (not_one congruence)),
      c.loop-row.invariant.1,
      c.loop-row.invariant.2,
    )

pub loop-row-preserved-then-is_zero : goal.loop-row-preserved-then-is_zero
loop-row-preserved-then-is_zero c =
    let rows = c.args.rows.now in
    let i = c.loop-row.row-index in
    let r = c.row-item.result in
    let inside : i < length rows = omega arith in (
      period_more rows i r c.loop-row.period c.loop-row.period inside c.row-item.is c.loop-row.invariant.0 c.loop-row.invariant.0.positive
          (Divides_self c.loop-row.period) (λ congruence.
          Divides-from_mod r.k c.loop-row.period (congruence_positive rows i r inside c.row-item.is c.requires.moduli congruence) (grind (arith, common_steps))),
      c.loop-row.invariant.1,
      c.loop-row.invariant.2,
    )

pub loop-row-preserved : goal.loop-row-preserved
loop-row-preserved c =
    let rows = c.args.rows.now in
    let i = c.loop-row.row-index in
    let r = c.row-item.result in
    let inside : i < length rows = omega arith in
    let is_one : IsCongruence r = grind (arith, common_steps) in (
      period_product rows i r c.loop-row.period c.in_ok-next.next inside c.row-item.is c.loop-row.invariant.0
          (congruence_positive rows i r inside c.row-item.is c.requires.moduli is_one) (grind (arith, common_steps)),
      grind (arith, common_steps),
      grind (arith, common_steps),
    )
