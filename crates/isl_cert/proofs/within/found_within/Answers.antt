use Rattle.std.proofs.Common.{◌+◌, arith, refl}
use Rattle.std.proofs.lemmas.Grind.{common_steps}
use Rattle.std.proofs.lemmas.Result.{err_from_is_err_and}
use Rattle.isl_meter.proofs.CutLemmas.{IsCharged_refl}
use Rattle.isl_difference.proofs.TameLaws.{tame_cut, tame_memory, tame_ok}
use Rattle.isl_cert.proofs.within.found_within.Goals as goal

pub returns-in_default-clause-tame : goal.returns-in_default-clause-tame
returns-in_default-clause-tame c =
    let g = c.args.meter.now in
    tame_memory 0 (c.args.most + c.args.most) g g _ (omega arith) (omega arith)

pub returns-in_default-nodes_of-clause-tame : goal.returns-in_default-nodes_of-clause-tame
returns-in_default-nodes_of-clause-tame c =
    let g = c.args.meter.now in
    tame_memory 0 (c.args.most + c.args.most) g g _ (omega arith) (omega arith)

pub returns-in_err-pay-clause-tame : goal.returns-in_err-pay-clause-tame
returns-in_err-pay-clause-tame c =
    let g = c.args.meter.now in
    let most = c.args.most in
    let few = c.in-Some.ensures.count.1 in
    let error = err_from_is_err_and c.from_residual.result c.from_residual.ensures.1 in
    rw (error.1, error.2) (tame_cut 0 c.in-Some.count (most + most) g g c.pay.new.meter _ _ c.in_err-pay.field-0.0 (IsCharged_refl g g refl)
    (omega arith) (omega (arith, few)) c.in_err-pay.ensures.tame)

pub returns-in_err-pay-2-clause-tame : goal.returns-in_err-pay-2-clause-tame
returns-in_err-pay-2-clause-tame c =
    let g = c.args.meter.now in
    let h = c.pay.new.meter in
    let most = c.args.most in
    let few = c.in-Some.ensures.count.1 in
    let paid = c.in_ok-pay.ensures.cases in
    let error = err_from_is_err_and c.from_residual-in_err-pay-2.result c.from_residual-in_err-pay-2.ensures.1 in
    rw (error.1, error.2) (tame_cut c.in-Some.count c.in-Some.count (most + most) g h c.pay-2.new.meter _ _ c.in_err-pay-2.field-0.0 paid.1
    (omega (arith, paid.0)) (omega (arith, few)) c.in_err-pay-2.ensures.tame)

pub returns-clause-units : goal.returns-clause-units
returns-clause-units c =
    let count = c.in-Some.ensures.count.0 in
    let first = c.in_ok-pay.ensures.cases.0 in
    let second = c.in_ok-pay-2.ensures.cases.0 in
    grind (arith, common_steps, count, first, second)

pub returns-clause-tame : goal.returns-clause-tame
returns-clause-tame c =
    let most = c.args.most in
    let few = c.in-Some.ensures.count.1 in
    let first = c.in_ok-pay.ensures.cases.0 in
    let second = c.in_ok-pay-2.ensures.cases.0 in
    tame_ok (most + most) c.args.meter.now c.pay-2.new.meter _ _ (omega (arith, few, first, second)) tt
