use Rattle.std.proofs.lemmas.Result.{err_from_is_err_and}
use Rattle.isl_meter.proofs.CutLemmas.{IsCharged_trans}
use Rattle.isl_calls.proofs.CallsLaws.{calls_later, refused_later, value_later}
use Rattle.isl_calls.proofs.of_value.calls_of.Goals as goal

pub scheduled_calls-requires-clause-within : goal.scheduled_calls-requires-clause-within
scheduled_calls-requires-clause-within c =
    value_later c.args.meter.now c.check_schedule.new.meter c.args.value.now c.in_ok-check_schedule.ensures.1 c.requires.within

pub returns : goal.returns
returns c =
    let g = c.args.meter.now in
    let h = c.check_schedule.new.meter in
    let k = c.scheduled_calls.new.meter in
    let value = c.args.value.now in
    let calls = c.in_ok-scheduled_calls.field-0 in
    let charged = c.in_ok-check_schedule.ensures in
    let are = c.in_ok-scheduled_calls.ensures in (
      charged.0,
      calls_later g h value calls.items charged.1 are.0,
      IsCharged_trans g h k charged.1 are.1,
    )

pub returns-in_err-scheduled_calls : goal.returns-in_err-scheduled_calls
returns-in_err-scheduled_calls c =
    let charged = c.in_ok-check_schedule.ensures in
    let error = err_from_is_err_and c.from_residual-in_err-scheduled_calls.result c.from_residual-in_err-scheduled_calls.ensures.1 in
    rw (error.1, error.2) (refused_later c.args.meter.now c.check_schedule.new.meter c.scheduled_calls.new.meter c.args.value.now
    c.in_err-scheduled_calls.field-0.0 charged.0 charged.1 c.in_err-scheduled_calls.ensures)
