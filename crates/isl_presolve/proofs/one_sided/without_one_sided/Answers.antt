use Rattle.std.proofs.Common.{◌≡◌, ◌<◌, arith}
use Rattle.isl_redundant.proofs.KeptLaws.{some_itself}
use Rattle.isl_presolve.specs.OneSided.{IsOneSided, rows_without}
use Rattle.isl_presolve.proofs.OneSidedLaws.{one_sided_first, one_sided_next, some_next}
use Rattle.isl_presolve.proofs.one_sided.without_one_sided.Goals as goal

pub loop-init : goal.loop-init
loop-init c = (
  one_sided_first c.args._meter.now c.args.columns c.args.rows c.requires.rows c.requires.normal,
  some_itself c.args.rows,
)

pub loop-preserved : goal.loop-preserved
loop-preserved c =
    let columns = c.args.columns in
    let col = c.in-Some.col in
    let now = c.loop.rows in
    let is : c.without_named-rows.result ≡ rows_without col now = grind arith in
    let inside : col < columns = grind arith in
    let sided : IsOneSided col now = grind arith in
    rw is (
      one_sided_next c.args._meter.now columns col c.args.rows now inside sided c.loop.invariant.0,
      some_next col c.args.rows now c.loop.invariant.1,
    )
