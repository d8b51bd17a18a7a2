use Rattle.std.proofs.Common.{◌≡◌, ◌++◌, ◌∷◌, [], take, length, ap, ◌∙◌, sym, subst, ◌≤ℤ◌, ◌<◌, ◌+◌, inl, inr, arith}
use Rattle.std.specs.List.{All}
use Rattle.std.proofs.lemmas.Grind.{common_steps}
use Rattle.std.proofs.lemmas.List.{take_more, take_all}
use Rattle.isl_math.specs.Order.{abs_of}
use Rattle.isl_piece.specs.declared.row.Row.{Row}
use Rattle.isl_piece.specs.Row.{coef_at}
use Rattle.isl_shadows.proofs.MirrorLaws.{greatest_more}
use Rattle.isl_column.proofs.mirror.greatest_factor.Goals as goal
use Rattle.isl_column.proofs.mirror.greatest_factor.Goals.{then-lt, else-lt}

pub loop-bound-preserved : goal.loop-bound-preserved
loop-bound-preserved c =
    let bounds = c.args.bounds.now in
    let u = c.bound-item.result in
    let i = c.loop-bound.bound-index in
    let at = c.args.column.at in
    let inside : i < length bounds = grind (arith, common_steps) in
    let taken : take (i + 1) bounds ≡ take i bounds ++ u ∷ [] = take_more bounds i u inside ∙ ap (λ (s : Row). take i bounds ++ s ∷ []) (sym c.bound-item.is) in
    let factor : c.abs-factor.result ≡ abs_of (coef_at u at) = grind arith in
    greatest_more at i bounds u c.loop-bound.greatest c.if-lt.greatest taken c.loop-bound.invariant.0 c.loop-bound.invariant.1 c.loop-bound.invariant.2
    (elim c.if-lt.branch [ then-lt w ↦ inl (grind (arith, common_steps, factor), grind (arith, common_steps, factor)) | else-lt w ↦ inr (grind (arith, common_steps, factor), grind (arith, common_steps, factor)) ])

pub returns-clause-greatest : goal.returns-clause-greatest
returns-clause-greatest c =
    subst (All (λ r. abs_of (coef_at r c.args.column.at) ≤ℤ c.loop-bound.greatest)) (take_all c.loop-bound.bound-index c.args.bounds.now (grind (arith, common_steps))) c.loop-bound.invariant.1
