use Rattle.std.proofs.Common.{◌≤◌, ℕ, arith, length}
use Rattle.std.proofs.lemmas.Grind.{common_steps}
use Rattle.std.proofs.lemmas.List.Elements.{All-more}
use Rattle.std.specs.List.{All}
use Rattle.isl_piece.specs.declared.row.Row.{Row}
use Rattle.isl_elim.specs.Solved.{IsUnitEquality}
use Rattle.isl_quotient.proofs.PinnedLaws.{all_seen}
use Rattle.isl_quotient.proofs.solved.given_column.Goals as goal

pub loop-col-preserved : goal.loop-col-preserved
loop-col-preserved c =
    let cols = c.args.cols.now in
    let P : ℕ → Type 0 = λ col. All (λ (r : Row). ¬ IsUnitEquality col r) c.args.rows.now in
    All-more P cols c.loop-col.col-index 0 c.loop-col-test.true c.loop-col.invariant (c.unit_at.ensures.none (grind (arith, common_steps)))

pub returns-clause-none : goal.returns-clause-none
returns-clause-none c = λ _.
    let cols = c.args.cols.now in
    let P : ℕ → Type 0 = λ col. All (λ (r : Row). ¬ IsUnitEquality col r) c.args.rows.now in
    let end : length cols ≤ c.loop-col.col-index = grind (arith, common_steps) in
    all_seen P cols c.loop-col.col-index end c.loop-col.invariant
