use Rattle.std.proofs.Common.{◌-◌}
use Rattle.isl_omega.specs.Column.{IsAnswerFor}
use Rattle.isl_shadows.specs.Exact.{pairs_on}
use Rattle.isl_shadows.specs.RealShadow.{HoldReally}
use Rattle.isl_shadows.proofs.ExactLemmas.{exact_from, at_least_paid}
use Rattle.isl_column.proofs.exact.exact_left.Goals as goal

pub returns-clause-exact : goal.returns-clause-exact
returns-clause-exact c =
    exact_from c.args.meter.now c.real_left.new.meter c.args.column.columns c.args.rows.now c.args.column.at c.real_left.result c.requires.rows c.requires.none c.requires.exact c.args.column.in_range c.real_left.ensures.exact

pub returns-clause-pairs : goal.returns-clause-pairs
returns-clause-pairs c =
    let g = c.args.meter.now in
    let rows = c.args.rows.now in
    at_least_paid (pairs_on c.args.column.at rows) g c.real_left.new.meter (IsAnswerFor g (c.args.column.columns - 1) (HoldReally rows c.args.column.at)) c.real_left.result c.real_left.ensures.exact

pub returns-clause-no_overflow : goal.returns-clause-no_overflow
returns-clause-no_overflow c = λ u w all room. c.real_left.ensures.no_overflow u w all room

pub returns-clause-answered : goal.returns-clause-answered
returns-clause-answered c = λ few. c.real_left.ensures.answered few
