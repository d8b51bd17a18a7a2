use Rattle.std.proofs.Common.{◌≡◌, ◌∙◌, ◌++◌}
use Rattle.isl_nest.proofs.UnderLaws.{joined_changing, joined_over, joined_printable, joined_runs, runs_none}
use Rattle.isl_nest.proofs.guards.under.Goals as goal

pub returns-then-is_empty-clause-runs : goal.returns-then-is_empty-clause-runs
returns-then-is_empty-clause-runs c = runs_none c.args.rows c.args.tree (c.is_empty.ensures.0 c.if-is_empty.true)

pub returns-clause-runs : goal.returns-clause-runs
returns-clause-runs c =
    joined_runs c.args.rows c.of-more.result.rows c.all.inside.items.items c.args.tree c.of-more.result.tree c.in_ok-new.field-0
    c.of-more.ensures (c.all.view_is ∙ c.in_ok-append.ensures) c.in_ok-new.ensures

pub returns-clause-over : goal.returns-clause-over
returns-clause-over c g n rows tree =
    joined_over c.args.rows c.of-more.result.rows c.all.inside.items.items c.args.tree c.of-more.result.tree c.in_ok-new.field-0
    c.of-more.ensures (c.all.view_is ∙ c.in_ok-append.ensures) c.in_ok-new.ensures g n rows tree

pub returns-clause-changing : goal.returns-clause-changing
returns-clause-changing c n asks =
    joined_changing c.args.rows c.of-more.result.rows c.all.inside.items.items c.args.tree c.of-more.result.tree c.in_ok-new.field-0
    c.of-more.ensures (c.all.view_is ∙ c.in_ok-append.ensures) c.in_ok-new.ensures n asks

pub returns-clause-printable : goal.returns-clause-printable
returns-clause-printable c n h =
    joined_printable c.args.rows c.of-more.result.rows c.all.inside.items.items c.args.tree c.of-more.result.tree c.in_ok-new.field-0
    c.of-more.ensures (c.all.view_is ∙ c.in_ok-append.ensures) c.in_ok-new.ensures n h
