use Rattle.std.proofs.Common.{◌≡◌, ◌+ℤ◌, length, arith, ◌^◌, ◌∙◌, pos}
use Rattle.isl_meter.specs.Gauge.{IsWithin, IsChargedUpTo}
use Rattle.isl_piece.specs.Row.{coef_at}
use Rattle.isl_omega.specs.declared.shadow.Splinters.{Splinters}
use Rattle.isl_omega.specs.Shadow.{neighbour_splinters, IsShadowOf}
use Rattle.isl_meter.proofs.UnitLemmas.{charged_bits}
use Rattle.isl_meter.proofs.LimitLemmas.{within_kept}
use Rattle.isl_omega.specs.Units.{paid}
use Rattle.isl_omega.proofs.ExactUnits.{charged_up_to}
use Rattle.isl_omega.proofs.SmallLemmas.{coef_up_to}
use Rattle.isl_omega.proofs.SmallPairs.{shadow_last}
use Rattle.isl_omega.proofs.shadow.tail_of.Goals as goal

pub returns-clause-exact : goal.returns-clause-exact
returns-clause-exact c =
    let lower = c.args.lower.now in
    let uppers = c.args.uppers.now.rows.now in
    let g = c.args.meter.now in
    let k = c.shadow_of.new.meter in
    let left = c.in_ok-left.left in
    let tail : Splinters = record { lower = c.in_ok-copy.field-0; last = c.in_ok-last.last } in
    let exact : k ≡ paid (length uppers) g = grind arith in
    let used = charged_up_to (length uppers) g k exact in
    let shadow : IsShadowOf g c.args.uppers.now.column.columns c.args.uppers.now.column.at lower uppers c.args.rows.now c.shadow_of.new.rows left.last = grind arith in
    let same : tail.lower ≡ lower = grind arith in
    let value : tail.last ≡ left.last +ℤ neighbour_splinters c.args.uppers.now.neighbours (coef_at lower c.args.uppers.now.column.at) = grind arith in
    let within : IsWithin k tail.last = grind arith in (
      (record { last = left.last; shadow = shadow; same = same; value = value; within = within_kept g k tail.last (charged_bits (pos (length uppers)) g k used) within }, c.in_ok-left.ensures.exact.0.2),
      grind arith,
    )

pub returns-in_err-last-clause-no_overflow : goal.returns-in_err-last-clause-no_overflow
returns-in_err-last-clause-no_overflow c = λ bits low up one.
    let lower = c.args.lower.now in
    let uppers = c.args.uppers.now.rows.now in
    let g = c.args.meter.now in
    let k = c.shadow_of.new.meter in
    let left = c.in_ok-left.left in
    let used : IsChargedUpTo (pos (length uppers)) g k = charged_up_to (length uppers) g k (grind arith) in
    let shadow : IsShadowOf g c.args.uppers.now.column.columns c.args.uppers.now.column.at lower uppers c.args.rows.now c.shadow_of.new.rows left.last = grind arith in
    let at : c.get.result ≡ coef_at lower c.args.uppers.now.column.at = grind arith in
    absurd (c.in_err-last.ensures.no_overflow (charged_bits (pos (length uppers)) g k used ∙ bits) (shadow_last g c.args.uppers.now.column.columns c.args.uppers.now.column.at lower uppers c.args.rows.now c.shadow_of.new.rows left.last shadow c.requires.lower low up) (rw at (coef_up_to (2 ^ 62) lower c.args.uppers.now.column.at low)) one)
