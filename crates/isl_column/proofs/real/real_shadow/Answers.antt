use Rattle.std.proofs.Common.{◌-◌, length, arith}
use Rattle.isl_omega.specs.Column.{IsAnswerFor}
use Rattle.isl_shadows.specs.Column.{HoldAtSome}
use Rattle.isl_shadows.specs.Exact.{pairs_on}
use Rattle.isl_shadows.specs.RealShadow.{IsImplied}
use Rattle.isl_shadows.specs.Solved.{IsLeastAmong, solved_rows}
use Rattle.isl_shadows.proofs.EliminateLemmas.{equality_from}
use Rattle.isl_shadows.proofs.LeastEquality.{least_equality_at}
use Rattle.isl_shadows.proofs.RealShadowLemmas.{implied_after, metered_after, metered_done, paid_after, solved_done, solved_implies}
use Rattle.isl_column.proofs.real.real_shadow.Goals as goal

pub returns-in-Some-clause-implied : goal.returns-in-Some-clause-implied
returns-in-Some-clause-implied c =
    solved_implies c.args.meter.now c.solved_left.new.meter (c.args.column.columns - 1) (HoldAtSome c.args.rows.now c.args.column.at) c.solved_left.result c.solved_left.ensures.exact

pub returns-in-Some-clause-meter : goal.returns-in-Some-clause-meter
returns-in-Some-clause-meter c =
    metered_done c.args.meter.now c.solved_left.new.meter (IsAnswerFor c.args.meter.now (c.args.column.columns - 1) (HoldAtSome c.args.rows.now c.args.column.at)) c.solved_left.result c.solved_left.ensures.exact

pub returns-in-Some-clause-equality : goal.returns-in-Some-clause-equality
returns-in-Some-clause-equality c = λ _.
    solved_done c.args.meter.now c.solved_left.new.meter (IsAnswerFor c.args.meter.now (c.args.column.columns - 1) (HoldAtSome c.args.rows.now c.args.column.at)) (solved_rows c.args.rows.now c.args.column.at) c.solved_left.result c.solved_left.ensures.exact c.solved_left.ensures.left

pub returns-in-Some-clause-solved : goal.returns-in-Some-clause-solved
returns-in-Some-clause-solved c = λ _. c.solved_left.ensures.exact

pub returns-in-Some-clause-pairs : goal.returns-in-Some-clause-pairs
returns-in-Some-clause-pairs c = λ none.
    let rows = c.args.rows.now in
    let equality : IsLeastAmong c.args.column.at rows (length rows) c.in-Some.at = grind arith in
    absurd (none (equality_from c.args.column.at rows c.in-Some.at (least_equality_at c.args.column.at rows (length rows) c.in-Some.at equality)))

pub returns-in-Some-clause-real_rows : goal.returns-in-Some-clause-real_rows
returns-in-Some-clause-real_rows c = λ none free.
    let rows = c.args.rows.now in
    let equality : IsLeastAmong c.args.column.at rows (length rows) c.in-Some.at = grind arith in
    absurd (none (equality_from c.args.column.at rows c.in-Some.at (least_equality_at c.args.column.at rows (length rows) c.in-Some.at equality)))

pub returns-clause-implied : goal.returns-clause-implied
returns-clause-implied c =
    implied_after (pairs_on c.args.column.at c.args.rows.now) c.args.meter.now c.bounds_shadow.new.meter (c.args.column.columns - 1) (HoldAtSome c.args.rows.now c.args.column.at) c.bounds_shadow.result c.bounds_shadow.ensures.exact

pub returns-clause-meter : goal.returns-clause-meter
returns-clause-meter c =
    let g = c.args.meter.now in
    metered_after (pairs_on c.args.column.at c.args.rows.now) g c.bounds_shadow.new.meter (IsImplied g (c.args.column.columns - 1) (HoldAtSome c.args.rows.now c.args.column.at)) c.bounds_shadow.result c.bounds_shadow.ensures.exact

pub returns-clause-pairs : goal.returns-clause-pairs
returns-clause-pairs c = λ _.
    let g = c.args.meter.now in
    paid_after (pairs_on c.args.column.at c.args.rows.now) g c.bounds_shadow.new.meter (IsImplied g (c.args.column.columns - 1) (HoldAtSome c.args.rows.now c.args.column.at)) c.bounds_shadow.result c.bounds_shadow.ensures.exact
