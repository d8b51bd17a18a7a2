use Rattle.std.proofs.Common.{◌≡◌, ◌<◌, length, get_or, take, arith, subst}
use Rattle.std.specs.List.{All}
use Rattle.std.proofs.lemmas.Grind.{common_steps}
use Rattle.std.proofs.lemmas.List.Elements.{All-more}
use Rattle.isl_piece.specs.declared.row.Row.{Row}
use Rattle.isl_piece.specs.Row.{coef_at}
use Rattle.isl_tower.specs.Ends.{EndsBelow, HasLowerEnd}
use Rattle.isl_tower.proofs.ClosedLaws.{no_lower_end, false_is_none, not_true}
use Rattle.isl_tower.proofs.ends.has_lower_end.Goals as goal

pub loop-row-preserved : goal.loop-row-preserved
loop-row-preserved c =
    let P : Row → Type 0 = λ r. ¬ EndsBelow r.kind (coef_at r c.args.col) in
    let rows = c.args.rows.now in
    let i = c.loop-row.row-index in
    let row = c.row-item.result in
    let inside : i < length rows = grind (arith, common_steps) in
    let at : row ≡ get_or rows i row = c.row-item.is in
    let none : P row = λ e. not_true c.ends_below.result (grind arith) (c.ends_below.ensures.1 e) in
    All-more P rows i row inside c.loop-row.invariant (subst P at none)

pub returns : goal.returns
returns c =
    let P : Row → Type 0 = λ r. ¬ EndsBelow r.kind (coef_at r c.args.col) in
    let rows = c.args.rows.now in
    let whole : take c.loop-row.row-index rows ≡ rows = grind (arith, common_steps) in
    let none = no_lower_end c.args.col rows (subst (All P) whole c.loop-row.invariant) in
    ((λ t. false_is_none (HasLowerEnd c.args.col rows) t), (λ a. absurd (none a)))
