use Rattle.std.proofs.Common.{◌≡◌, ◌<◌, arith, length, refl, subst, take}
use Rattle.std.specs.List.{All}
use Rattle.std.proofs.lemmas.Grind.{common_steps}
use Rattle.isl_points.specs.Exclusion.{MeetsExclusion}
use Rattle.isl_points.proofs.ListLaws.{all_more}
use Rattle.isl_points.proofs.line.all_allow.Goals as goal

pub loop-row-preserved : goal.loop-row-preserved
loop-row-preserved c =
    let rows = c.args.rows.now in
    let i = c.loop-row.row-index in
    let inside : i < length rows = grind (arith, common_steps) in
    let meets : MeetsExclusion c.args.x c.row-item.result = c.in_ok-allows.ensures.0.0 (grind arith) in (
      (all_more (MeetsExclusion c.args.x) rows i c.row-item.result inside c.row-item.is).1 (c.loop-row.invariant.0, meets),
      grind arith,
    )

pub returns : goal.returns
returns c =
    let rows = c.args.rows.now in
    let whole : take c.loop-row.row-index rows ≡ rows = grind (arith, common_steps) in
    (((λ t. subst (All (MeetsExclusion c.args.x)) whole c.loop-row.invariant.0), (λ a. refl)), c.loop-row.invariant.1)
