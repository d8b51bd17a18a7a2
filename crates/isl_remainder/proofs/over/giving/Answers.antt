use Rattle.std.proofs.Common.{ap, ◌∙◌, subst}
use Rattle.isl_remainder.specs.Over.{row_alone, GivesColumn}
use Rattle.isl_remainder.proofs.ColumnLaws.{row_gives}
use Rattle.isl_remainder.proofs.over.giving.Goals as goal

pub returns-then-gives : goal.returns-then-gives
returns-then-gives c g within =
    row_gives g c.args.system.now c.in_ok-alone.field-0 c.as_slice-row-items.result.now c.loop-row.row-index c.row-item.result
    c.as_slice-row-items.ensures c.loop-row-test.true c.row-item.is within
    (subst (λ n. GivesColumn n c.row-item.result) c.free-free.ensures (c.gives.ensures c.if-gives.true))
    (c.in_ok-alone.ensures ∙ ap (λ n. row_alone n c.row-item.result) c.free-free.ensures)
