use Rattle.std.proofs.Common.{◌≡◌, ◌≢◌, ◌<◌, ◌≤◌, ◌∙◌, refl, subst, arith, length, get_or, List}
use Rattle.std.specs.List.{All}
use Rattle.std.proofs.lemmas.Grind.{common_steps}
use Rattle.std.proofs.lemmas.List.{take_all}
use Rattle.std.proofs.lemmas.List.Elements.{All-more}
use Rattle.isl_piece.specs.declared.row.RowKind.TheVariants.{Divides}
use Rattle.isl_piece.specs.declared.row.Row.{Row}
use Rattle.isl_nest.specs.Stepping.{TellsStep}
use Rattle.isl_nest.proofs.around.step_among.Goals as goal

pub loop-row-preserved-then-ne : goal.loop-row-preserved-then-ne
loop-row-preserved-then-ne c =
    let rows = c.args.rows.now in
    let row : Row = c.row-item.result in
    let i = c.loop-row.row-index in
    let low : i < length rows = grind (arith, common_steps) in
    let at : row ≡ get_or rows i row = subst (λ (rs : List Row). row ≡ get_or rs i row) c.as_slice-row-items.ensures c.row-item.is in
    let other : row.kind ≢ Divides = grind (arith, common_steps) in (
      c.loop-row.invariant.0,
      All-more (λ r. ¬ TellsStep c.args.variables r) rows i row low c.loop-row.invariant.1
          (subst (λ (r : Row). ¬ TellsStep c.args.variables r) at (λ step. other step.kind)),
    )

pub loop-row-preserved : goal.loop-row-preserved
loop-row-preserved c =
    let rows = c.args.rows.now in
    let row : Row = c.row-item.result in
    let i = c.loop-row.row-index in
    let low : i < length rows = grind (arith, common_steps) in
    let at : row ≡ get_or rows i row = subst (λ (rs : List Row). row ≡ get_or rs i row) c.as_slice-row-items.ensures c.row-item.is in
    let told = rw c.in_default.is at c.in_ok-step.ensures.0.1 in (
      c.in_ok-step.ensures.1 ∙ c.loop-row.invariant.0,
      All-more (λ r. ¬ TellsStep c.args.variables r) rows i row low c.loop-row.invariant.1
          (subst (λ (r : Row). ¬ TellsStep c.args.variables r) at (λ step. told refl step.coprime)),
    )

pub returns : goal.returns
returns c =
    let rows = c.args.rows.now in
    let end : length rows ≤ c.loop-row.row-index = grind (arith, common_steps) in (
      (
        tt,
        λ none. subst (All (λ r. ¬ TellsStep c.args.variables r)) (take_all c.loop-row.row-index rows end) c.loop-row.invariant.1,
      ),
      c.loop-row.invariant.0,
    )
