use Rattle.std.proofs.Common.{◌≡◌, ◌-◌, ◌∙◌, ap, arith, ◌^◌, lit<}
use Rattle.isl_omega.specs.Column.{IsAnswerFor}
use Rattle.isl_omega.specs.Equality.{IsSolvedBy}
use Rattle.isl_shadows.proofs.SplinterLemmas.{lowered_by, splinter_is}
use Rattle.std.proofs.lemmas.Result.{err_from_is_err_and}
use Rattle.isl_meter.specs.Gauge.{Gauge}
use Rattle.isl_omega.proofs.SmallLemmas.{row_up_to_at, rows_up_to_at}
use Rattle.isl_shadows.proofs.SmallSplinters.{lowered_up_to}
use Rattle.isl_column.proofs.splinters.splinter.Goals as goal

pub returns-clause-exact : goal.returns-clause-exact
returns-clause-exact c =
    let bound = c.args.tail.now.lower in
    let fixed = c.in_ok-fixed.fixed in
    let g = c.args.meter.now in
    let same : fixed ≡ lowered_by bound c.args.tail.now.last = grind arith in
    let left : IsAnswerFor g (c.args.column.columns - 1) (IsSolvedBy c.args.rows.now fixed c.args.column.at) c.in_ok-left.left = grind arith in
    (splinter_is g c.args.column.columns c.args.column.at c.args.rows.now bound fixed c.args.tail.now.last c.in_ok-left.left same left, grind arith)

pub returns-in_err-fixed-clause-no_overflow : goal.returns-in_err-fixed-clause-no_overflow
returns-in_err-fixed-clause-no_overflow c = λ bits rows bound i.
    let p = err_from_is_err_and c.from_residual.result c.from_residual.ensures.1 in
    rw (p.1, p.2) (c.in_err-fixed.ensures.no_overflow (2 ^ 62) (2 ^ 61) i bound (rw bits (lit< tt)))

pub returns-in_err-left-clause-no_overflow : goal.returns-in_err-left-clause-no_overflow
returns-in_err-left-clause-no_overflow c = λ bits rows bound i.
    let col = c.args.column.at in
    let lower = c.args.tail.now.lower in
    let fixed = c.in_ok-fixed.fixed in
    let same : fixed ≡ lowered_by lower c.args.tail.now.last = grind arith in
    let meter : c.reduced_by.new.meter ≡ c.args.meter.now = grind arith in
    let small = lowered_up_to lower fixed c.args.tail.now.last bound i same in
    let p = err_from_is_err_and c.from_residual-in_err-left.result c.from_residual-in_err-left.ensures.1 in
    rw (p.1, p.2) (c.in_err-left.ensures.no_overflow (2 ^ 61) (2 ^ 63) (2 ^ 61) (2 ^ 63) (rows_up_to_at (2 ^ 61) col c.args.rows.now rows)
    (row_up_to_at (2 ^ 63) col fixed small) (rw (ap (λ (x : Gauge). x.bits) meter ∙ bits) (lit< tt)))
