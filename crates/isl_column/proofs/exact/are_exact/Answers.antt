use Rattle.std.proofs.Common.{◌≡◌, take, arith, rules}
use Rattle.std.proofs.lemmas.Grind.{common_steps}
use Rattle.std.proofs.lemmas.List.Elements.{All-more}
use Rattle.isl_shadows.specs.Exact.{IsExactRow}
use Rattle.isl_column.proofs.exact.are_exact.Goals as goal

pub loop-row-preserved : goal.loop-row-preserved
loop-row-preserved c =
    let rows = c.args.rows.now in
    let row = c.row-item.result in
    let own : IsExactRow c.args.side c.args.column.at row = grind arith in
    All-more (IsExactRow c.args.side c.args.column.at) rows c.loop-row.row-index row c.loop-row-test.true c.loop-row.invariant (rw c.row-item.is at own)

pub returns : goal.returns
returns c =
    let whole : take c.loop-row.row-index c.args.rows.now ≡ c.args.rows.now = grind (arith, common_steps) in
    ((λ t. rw whole at c.loop-row.invariant), (λ h. search rules))
