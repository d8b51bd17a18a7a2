use Rattle.std.proofs.Common.{◌≡◌, ◌<◌, arith, length, subst, take}
use Rattle.std.specs.List.{All}
use Rattle.std.proofs.lemmas.Grind.{common_steps}
use Rattle.isl_points.specs.Exclusion.{MeetsExclusion}
use Rattle.isl_points.proofs.ListLaws.{all_more}
use Rattle.isl_points.proofs.line.excludes_none.Goals as goal

pub loop-row-preserved : goal.loop-row-preserved
loop-row-preserved c = λ x.
    let rows = c.args.rows.now in
    let i = c.loop-row.row-index in
    let inside : i < length rows = grind (arith, common_steps) in
    (all_more (MeetsExclusion x) rows i c.row-item.result inside c.row-item.is).1
    (c.loop-row.invariant x, c.excludes_nothing.ensures (grind arith) x)

pub returns : goal.returns
returns c = λ t x.
    let rows = c.args.rows.now in
    let whole : take c.loop-row.row-index rows ≡ rows = grind (arith, common_steps) in
    subst (All (MeetsExclusion x)) whole (c.loop-row.invariant x)
