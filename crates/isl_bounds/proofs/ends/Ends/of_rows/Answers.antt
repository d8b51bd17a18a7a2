use Rattle.std.proofs.Common.{◌≡◌, ◌<◌, ◌∙◌, ◌++◌, ◌∷◌, [], sym, ap, subst, arith, List, length, get_or, take}
use Rattle.std.proofs.lemmas.Grind.{common_steps}
use Rattle.std.proofs.lemmas.List.{take_more}
use Rattle.isl_piece.specs.declared.row.Row.{Row}
use Rattle.isl_bounds.specs.Ends.{AreEndsOf}
use Rattle.isl_bounds.proofs.ends.Ends.of_rows.Goals as goal

pub loop-row-preserved : goal.loop-row-preserved
loop-row-preserved c =
    let rows = c.args.rows.now in
    let i = c.loop-row.row-index in
    let row = c.row-item.result in
    let same : c.as_slice-row-items.result.now ≡ rows = c.as_slice-row-items.ensures in
    let at : row ≡ get_or rows i row = subst (λ (rs : List Row). row ≡ get_or rs i row) same c.row-item.is in
    let low : i < length rows = grind (arith, common_steps) in
    subst (λ (rs : List Row). AreEndsOf c.args.meter.now c.args.variables rs c.add.new.self)
    (sym (take_more rows i row low ∙ ap (λ (r : Row). take i rows ++ r ∷ []) (sym at)))
    (c.in_ok-add.ensures (take i rows) c.loop-row.invariant)
