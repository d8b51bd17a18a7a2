use Rattle.std.proofs.Common.{◌≤◌, ◌<◌, ◌+◌, arith}
use Rattle.std.proofs.lemmas.Grind.{common_steps}
use Rattle.std.proofs.lemmas.Result.{err_from_is_err_and}
use Rattle.isl_difference.proofs.TameLaws.{tame_ok, tame_refused}
use Rattle.isl_cert.proofs.within.pay.Goals as goal

pub returns-in_err-unit-clause-tame : goal.returns-in_err-unit-clause-tame
returns-in_err-unit-clause-tame c =
    let g = c.args.meter.now in
    let h = c.loop-unit.meter in
    let error = err_from_is_err_and c.from_residual.result c.from_residual.ensures.1 in
    let used = c.loop-unit._unit in
    let so = c.loop-unit.invariant in
    let few : h.units ≤ g.units + used = omega (arith, so.0) in
    let room : used < c.args.units = grind (arith, common_steps) in
    let refused = c.in_err-unit.ensures in
    rw (error.1, error.2) (tame_refused used c.args.units g h c.unit.new.self _ so.1 few room refused.0 refused.1)

pub returns-clause-tame : goal.returns-clause-tame
returns-clause-tame c =
    let so = c.loop-unit.invariant in
    tame_ok c.args.units c.args.meter.now c.loop-unit.meter _ _ (omega (arith, so.0)) tt
