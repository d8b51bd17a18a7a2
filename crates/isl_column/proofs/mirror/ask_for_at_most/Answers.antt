use Rattle.std.proofs.Common.{◌≡◌, ◌++◌, ◌∷◌, [], take, length, ap, ◌∙◌, sym, pos, neg_ℤ, ◌-ℤ◌, ◌≤ℤ◌, ◌<◌, ◌+◌, arith}
use Rattle.std.proofs.lemmas.Grind.{common_steps}
use Rattle.std.proofs.lemmas.List.{take_more}
use Rattle.isl_piece.specs.declared.row.Row.{Row}
use Rattle.isl_piece.specs.Row.{coef_at}
use Rattle.isl_omega.specs.Shadow.{splinters}
use Rattle.isl_omega.specs.Sides.{IsUpper}
use Rattle.isl_shadows.proofs.MirrorLaws.{left_more, less_within}
use Rattle.isl_column.proofs.mirror.ask_for_at_most.Goals as goal

pub loop-upper-preserved : goal.loop-upper-preserved
loop-upper-preserved c =
    let uppers = c.args.uppers.now in
    let u = c.upper-item.result in
    let i = c.loop-upper.upper-index in
    let at = c.args.column.at in
    let g = c.args.meter.now in
    let m = c.args.greatest in
    let own = c.in_ok-own.own in
    let left = c.loop-upper.left in
    let new = c.in_ok-left.left in
    let inside : i < length uppers = grind (arith, common_steps) in
    let taken : take (i + 1) uppers ≡ take i uppers ++ u ∷ [] = take_more uppers i u inside ∙ ap (λ (s : Row). take i uppers ++ s ∷ []) (sym c.upper-item.is) in
    let is : own ≡ splinters (neg_ℤ (coef_at u at)) m = grind (arith, common_steps) in
    let large : pos 0 ≤ℤ own = grind (arith, common_steps) in
    let bound : IsUpper g c.args.column.columns at u = grind (arith, common_steps) in
    let wide : at < length u.coefs = rw (bound.proper.formed.width) c.args.column.in_range in
    let value : new ≡ left -ℤ own = grind (arith, common_steps) in
    let most : own ≤ℤ left = grind (arith, common_steps) in
    let within = less_within g left own large most c.loop-upper.invariant.2 in (
      rw value (left_more at i m uppers u c.args.most left own taken wide is c.loop-upper.invariant.0),
      rw value (within.0),
      rw value (within.1),
      grind (arith, common_steps),
    )
