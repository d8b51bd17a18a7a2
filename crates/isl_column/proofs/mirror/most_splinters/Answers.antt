use Rattle.std.proofs.Common.{◌≡◌, ◌++◌, ◌∷◌, [], take, length, ap, ◌∙◌, sym, pos, ◌≤ℤ◌, ◌<◌, ◌+◌, inl, inr, arith}
use Rattle.std.proofs.lemmas.Grind.{common_steps}
use Rattle.std.proofs.lemmas.List.{take_more}
use Rattle.std.proofs.lemmas.List.Elements.{All-take}
use Rattle.isl_piece.specs.declared.row.Row.{Row}
use Rattle.isl_piece.specs.Row.{coef_at}
use Rattle.isl_meter.specs.Gauge.{IsWithin}
use Rattle.isl_omega.specs.Shadow.{splinters}
use Rattle.isl_omega.specs.Sides.{IsLower}
use Rattle.isl_shadows.proofs.MirrorLaws.{most_more}
use Rattle.isl_column.proofs.mirror.most_splinters.Goals as goal
use Rattle.isl_column.proofs.mirror.most_splinters.Goals.{then-lt, else-lt}

pub loop-lower-preserved : goal.loop-lower-preserved
loop-lower-preserved c =
    let lowers = c.args.lowers.now in
    let u = c.lower-item.result in
    let i = c.loop-lower.lower-index in
    let at = c.args.column.at in
    let g = c.args.meter.now in
    let m = c.args.greatest in
    let own = c.in_ok-own.own in
    let inside : i < length lowers = grind (arith, common_steps) in
    let taken : take (i + 1) lowers ≡ take i lowers ++ u ∷ [] = take_more lowers i u inside ∙ ap (λ (s : Row). take i lowers ++ s ∷ []) (sym c.lower-item.is) in
    let is : own ≡ splinters (coef_at u at) m = grind (arith, common_steps) in
    let large : pos 0 ≤ℤ own = grind (arith, common_steps) in
    let own_within : IsWithin g own = grind (arith, common_steps) in
    let so_far = All-take (IsLower g c.args.column.columns at) i lowers c.requires.lowers in
    elim c.if-lt.branch [
      | then-lt w ↦
          let e : c.if-lt.most ≡ own = grind (arith, common_steps) in (
            most_more g c.args.column.columns at i m lowers u c.loop-lower.most c.if-lt.most own taken c.requires.greatest so_far is large c.loop-lower.invariant.0 (inl e),
            rw e large,
            rw e own_within,
            grind (arith, common_steps),
          )
      | else-lt w ↦
          let e : c.if-lt.most ≡ c.loop-lower.most = grind (arith, common_steps) in (
            most_more g c.args.column.columns at i m lowers u c.loop-lower.most c.if-lt.most own taken c.requires.greatest so_far is large c.loop-lower.invariant.0 (inr e),
            rw e (c.loop-lower.invariant.1),
            rw e (c.loop-lower.invariant.2),
            grind (arith, common_steps),
          )
    ]
