use Rattle.std.proofs.Common.{◌-◌, ◌^◌, arith, lit<}
use Rattle.isl_omega.specs.Column.{IsAnswerFor}
use Rattle.isl_meter.specs.Gauge.{IsChargedUpTo}
use Rattle.isl_shadows.specs.Column.{HoldAtSome}
use Rattle.isl_shadows.specs.Exact.{pairs_on}
use Rattle.isl_shadows.specs.Units.{elimination_units}
use Rattle.isl_column.proofs.PartsLemmas.{IsHead, head_small, head_begun}
use Rattle.std.proofs.lemmas.Result.{err_from_is_err_and}
use Rattle.isl_omega.proofs.SmallLemmas.{rows_up_to_at}
use Rattle.isl_shadows.proofs.TameLemmas.{within_cut}
use Rattle.isl_column.proofs.parts.Parts.exact.Goals as goal

pub returns-clause-exact : goal.returns-clause-exact
returns-clause-exact c =
    let g = c.args.meter.now in
    let k = c.exact_left.new.meter in
    let columns = c.args.column.columns in
    let rows = c.args.rows.now in
    let left = c.in_ok-left.left in
    let answer : IsAnswerFor g (columns - 1) (HoldAtSome rows c.args.column.at) left = grind arith in
    let charged : IsChargedUpTo (elimination_units rows c.args.column.at) g k = grind arith in
    let is : IsHead columns c.args.column.at left c.head.result = record { columns = grind arith; col = grind arith; rows = grind arith; alone = grind arith } in
    head_begun (elimination_units rows c.args.column.at) g k columns c.args.column.at (HoldAtSome rows c.args.column.at) left c.head.result is answer charged

pub returns-clause-no_overflow : goal.returns-clause-no_overflow
returns-clause-no_overflow c = λ bits small. head_small c.args.column.columns c.args.column.at c.in_ok-left.left c.head.result (record { columns = grind arith; col = grind arith; rows = grind arith; alone = grind arith })

pub returns-in_err-left-clause-no_overflow : goal.returns-in_err-left-clause-no_overflow
returns-in_err-left-clause-no_overflow c = λ bits small.
    let p = err_from_is_err_and c.from_residual.result c.from_residual.ensures.1 in
    rw (p.1, p.2) (c.in_err-left.ensures.no_overflow (2 ^ 30) (2 ^ 30) (rows_up_to_at (2 ^ 30) c.args.column.at c.args.rows.now small) (rw bits (lit< tt)))

pub returns-in_err-left-clause-tame : goal.returns-in_err-left-clause-tame
returns-in_err-left-clause-tame c =
    let p = err_from_is_err_and c.from_residual.result c.from_residual.ensures.1 in
    rw (p.1, p.2) (within_cut (pairs_on c.args.column.at c.args.rows.now) c.args.meter.now c.exact_left.new.meter c.args.rows.now c.args.column.at c.in_err-left.field-0.0
    (record { numbers = c.in_err-left.ensures.no_overflow; answered = c.in_err-left.ensures.answered }))

pub returns-clause-tame : goal.returns-clause-tame
returns-clause-tame c =
    let used = c.in_ok-left.ensures.answered tt in
    record { numbers = λ u w all room. tt; answered = λ few. record { units = used.units; answered = λ left. tt } }
