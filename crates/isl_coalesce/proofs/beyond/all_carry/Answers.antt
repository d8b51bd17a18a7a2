use Rattle.std.proofs.Common.{◌≡◌, ◌<◌, ◌∙◌, arith, length, subst, true}
use Rattle.std.specs.List.{All}
use Rattle.std.proofs.lemmas.Grind.{common_steps}
use Rattle.std.proofs.lemmas.List.{take_all}
use Rattle.isl_coalesce.specs.Beyond.{Carries}
use Rattle.isl_coalesce.proofs.BeyondLaws.{rows_more}
use Rattle.isl_coalesce.proofs.beyond.all_carry.Goals as goal

pub loop-row-preserved : goal.loop-row-preserved
loop-row-preserved c =
    let i = c.loop-row.row-index in
    let rows = c.args.rows.now in
    let low : i < length rows = grind (arith, common_steps) in
    let yes : c.in_ok-carries.field-0 ≡ true = grind (arith, common_steps) in (
      rows_more (Carries c.args.from.now c.args.to.now) rows i c.row-item.result low c.row-item.is c.loop-row.invariant.0
          (c.in_ok-carries.ensures.exact yes),
      c.in_ok-carries.ensures.meter ∙ c.loop-row.invariant.1,
    )

pub returns-clause-exact : goal.returns-clause-exact
returns-clause-exact c = λ yes.
    subst (λ l. All (Carries c.args.from.now c.args.to.now) l) (take_all c.loop-row.row-index c.args.rows.now (omega arith))
    c.loop-row.invariant.0
