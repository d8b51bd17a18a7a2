use Rattle.std.proofs.Common.{◌≡◌, ◌<◌, ◌≤◌, sym, subst, arith, length, get_or, List}
use Rattle.std.specs.List.{All}
use Rattle.std.proofs.lemmas.Bool.{false≢true}
use Rattle.std.proofs.lemmas.Grind.{common_steps}
use Rattle.std.proofs.lemmas.List.{take_all}
use Rattle.std.proofs.lemmas.List.Elements.{All-more}
use Rattle.isl_piece.specs.declared.row.Row.{Row}
use Rattle.isl_nest.specs.Striding.{Asks}
use Rattle.isl_nest.proofs.equality.is_asked.Goals.{else-eq-via-else-eq, else-eq-via-then-eq+else-named-column}
use Rattle.isl_nest.proofs.equality.is_asked.Goals.{else-eq-via-then-eq+then-named-column+else-not-is_zero}
use Rattle.isl_nest.proofs.equality.is_asked.Goals as goal

pub loop-row-preserved : goal.loop-row-preserved
loop-row-preserved c =
    let rows = c.args.rows.now in
    let row : Row = c.row-item.result in
    let i = c.loop-row.row-index in
    let low : i < length rows = grind (arith, common_steps) in
    let at : row ≡ get_or rows i row = subst (λ (rs : List Row). row ≡ get_or rs i row) c.as_slice-row-items.ensures c.row-item.is in
    let none : ¬ Asks c.args.column row = elim c.else-eq.branch [
      | else-eq-via-then-eq+then-named-column+else-not-is_zero w ↦
          λ a. let n = a.names in let e = w.is_zero.ensures in let f = w.get.ensures in let t = w.if-not-is_zero in grind (arith, common_steps)
      | else-eq-via-then-eq+else-named-column w ↦
          λ a. let n = a.later in let e = w.named.ensures in let t = w.if-named-column in grind (arith, common_steps)
      | else-eq-via-else-eq w ↦
          λ a. let k = a.kind in let e = c.eq.ensures in let t = w.if-eq in grind (arith, common_steps)
    ] in
    All-more (λ r. ¬ Asks c.args.column r) rows i row low c.loop-row.invariant
    (subst (λ (r : Row). ¬ Asks c.args.column r) at none)

pub returns : goal.returns
returns c =
    let rows = c.args.rows.now in
    let end : length rows ≤ c.loop-row.row-index = grind (arith, common_steps) in
    let none : All (λ r. ¬ Asks c.args.column r) rows =
    subst (All (λ r. ¬ Asks c.args.column r)) (take_all c.loop-row.row-index rows end) c.loop-row.invariant in (
      (λ t. absurd (false≢true t)),
      (λ any. absurd (none any.0 any.1 any.2 (subst (Asks c.args.column) (sym any.3) any.4))),
    )
