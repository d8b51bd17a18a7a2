use Rattle.std.proofs.Common.{refl, ◌<◌, length, get_or, arith, subst, take_all}
use Rattle.std.specs.List.{All}
use Rattle.std.proofs.lemmas.Grind.{common_steps}
use Rattle.std.proofs.lemmas.List.Elements.{All-more}
use Rattle.isl_piece.specs.declared.row.Row.{Row}
use Rattle.isl_piece.specs.Row.{HoldsRow}
use Rattle.isl_piece.proofs.rows.Rows.hold_at.Goals as goal

pub loop-row-preserved : goal.loop-row-preserved
loop-row-preserved c =
    let P : Row → Type 0 = λ r. HoldsRow r c.args.point.now in
    let rows = c.args.self.now in
    let i = c.loop-row.row-index in
    let row = c.row-item.result in
    let inside : i < length rows = grind (arith, common_steps) in
    let holds : P (get_or rows i row) = grind (arith, common_steps) in
    (All-more P rows i row inside c.loop-row.invariant.0 holds, grind (arith, common_steps))

pub returns : goal.returns
returns c =
    let P : Row → Type 0 = λ r. HoldsRow r c.args.point.now in
    let all = subst (All P) (take_all c.loop-row.row-index c.args.self.now (grind (arith, common_steps))) c.loop-row.invariant.0 in
    (((λ _. all), (λ _. refl)), c.loop-row.invariant.1)
