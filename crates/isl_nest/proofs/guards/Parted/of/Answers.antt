use Rattle.std.proofs.Common.{◌≡◌, ◌≢◌, ◌<◌, ◌++◌, ◌∷◌, ◌∙◌, [], pos, sym, ap, subst, arith, List, length, get_or}
use Rattle.std.proofs.lemmas.Bool.{false≢true}
use Rattle.std.proofs.lemmas.Grind.{common_steps}
use Rattle.isl_piece.specs.declared.row.Row.{Row}
use Rattle.isl_nest.proofs.PartedLaws.{next_inside, next_outside}
use Rattle.isl_nest.proofs.guards.Parted.of.Goals.{then-is_fixed+in_ok-narrowed+in_ok-push, else-is_fixed+in_ok-copy+in_ok-push-2}
use Rattle.isl_nest.proofs.guards.Parted.of.Goals as goal

pub loop-row-preserved : goal.loop-row-preserved
loop-row-preserved c =
    let rows = c.args.rows.now in
    let row = c.row-item.result in
    let i = c.loop-row.row-index in
    let outside = c.loop-row.outside in
    let inside = c.loop-row.inside in
    let same : c.as_slice-row-items.result.now ≡ rows = c.as_slice-row-items.ensures in
    let at : row ≡ get_or rows i row = subst (λ (rs : List Row). row ≡ get_or rs i row) same c.row-item.is in
    let low : i < length rows = grind (arith, common_steps) in
    elim c.if-is_fixed.branch [
      | then-is_fixed+in_ok-narrowed+in_ok-push w ↦
          next_outside c.args.variables rows i row low at outside inside c.loop-row.invariant c.if-is_fixed.outside c.if-is_fixed.inside
          (c.is_fixed.ensures.0 w.if-is_fixed.true)
          (w.outside-is ∙ w.in_ok-push.ensures.ok ∙ ap (λ (r : Row). outside ++ r ∷ []) w.in_ok-narrowed.ensures) w.inside-is
      | else-is_fixed+in_ok-copy+in_ok-push-2 w ↦
          next_inside c.args.variables rows i row low at outside inside c.loop-row.invariant c.if-is_fixed.outside c.if-is_fixed.inside
          (λ e. false≢true (sym w.if-is_fixed.false ∙ c.is_fixed.ensures.1 e)) w.outside-is
          (w.inside-is ∙ w.in_ok-push-2.ensures.ok ∙ ap (λ (r : Row). inside ++ r ∷ []) w.in_ok-copy.ensures)
    ]
