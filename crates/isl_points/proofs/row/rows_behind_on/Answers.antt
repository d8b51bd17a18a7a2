use Rattle.std.proofs.Common.{◌<◌, length, arith, subst}
use Rattle.std.proofs.lemmas.Grind.{common_steps}
use Rattle.std.specs.List.{All}
use Rattle.isl_meter.specs.Gauge.{Gauge, IsWithin}
use Rattle.isl_piece.specs.declared.row.Row.{Row}
use Rattle.isl_points.proofs.ShornLaws.{on_more}
use Rattle.isl_points.proofs.row.rows_behind_on.Goals as goal

pub loop-row-preserved : goal.loop-row-preserved
loop-row-preserved c =
    let rows = c.args.rows.now in
    let i = c.loop-row.row-index in
    let before = c.loop-row.invariant in
    let after = c.in_ok-push_on.ensures in
    let new = c.push_on.new.kept.items in
    let low : i < length rows = grind (arith, common_steps) in (
      on_more c.args.numbers.now rows i c.row-item.result c.loop-row.kept.items new low c.row-item.is before.0 after.0,
      subst (λ (m : Gauge). All (λ (r : Row). IsWithin m r.constant) new) before.2 after.1,
      grind arith,
    )

pub push_on-requires-clause-kept : goal.push_on-requires-clause-kept
push_on-requires-clause-kept c =
    let before = c.loop-row.invariant in
    rw before.2 before.1
