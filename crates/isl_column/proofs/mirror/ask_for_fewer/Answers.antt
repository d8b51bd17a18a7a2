use Rattle.std.proofs.Common.{◌≡◌, sym, subst, IsTrue, map, pos, ◌<ℤ◌, ◌≤ℤ◌, List, arith}
use Rattle.std.specs.List.{All}
use Rattle.std.proofs.lemmas.Grind.{common_steps}
use Rattle.isl_math.specs.Order.{abs_of}
use Rattle.isl_piece.specs.declared.row.Row.{Row}
use Rattle.isl_piece.specs.Row.{coef_at}
use Rattle.isl_shadows.specs.Splinters.{splinter_total}
use Rattle.isl_shadows.specs.Mirror.{AskForFewer, mirrored_row}
use Rattle.isl_shadows.proofs.MirrorLaws.{fewer_from, sure_more}
use Rattle.isl_column.proofs.mirror.ask_for_fewer.Goals as goal

pub returns : goal.returns
returns c =
    let sides = c.args.sides.now in
    let at = c.args.column.at in
    let g = c.args.meter.now in
    let a = c.greatest_factor-of_lowers.result in
    let b = c.greatest_factor-of_uppers.result in
    let most = c.in_ok-most.most in
    let new = c.ask_for_at_most.new.meter in
    let p : pos 0 <ℤ a = grind (arith, common_steps) in
    let q : pos 0 <ℤ b = grind (arith, common_steps) in
    let lowers : c.as_slice.result.now ≡ sides.lowers = grind arith in
    let uppers : c.as_slice-2.result.now ≡ sides.uppers = grind arith in
    let again : c.as_slice-4.result.now ≡ sides.uppers = grind arith in
    let many : most ≤ℤ splinter_total (pos 0) b at sides.lowers = grind (arith, common_steps) in
    let same : c.most_splinters.new.meter ≡ g = grind (arith, common_steps) in
    let greatest = subst (All (λ r. abs_of (coef_at r at) ≤ℤ a)) lowers c.greatest_factor-of_lowers.ensures.greatest in
    sure_more (λ few. (IsTrue few → splinter_total (pos 0) a at (map (mirrored_row at) c.as_slice-4.result.now) ≤ℤ most) × (new ≡ c.most_splinters.new.meter))
    (λ few. (IsTrue few → AskForFewer at sides.lowers sides.uppers) × (new ≡ g)) c.ask_for_at_most.result
    (λ few h. (
      (λ yes. fewer_from g c.args.column.columns at sides a b most c.requires.sided p q greatest
          (λ m r u. c.greatest_factor-of_uppers.ensures.least m r (subst (All (λ r. abs_of (coef_at r at) ≤ℤ m)) (sym uppers) u)) many
          (subst (λ (rows : List Row). splinter_total (pos 0) a at (map (mirrored_row at) rows) ≤ℤ most) again (h.0 yes))),
      rw (h.1) same,
    ))
    c.ask_for_at_most.ensures
