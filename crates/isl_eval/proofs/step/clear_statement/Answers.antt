use Rattle.isl_eval.proofs.TakenLaws.{clear_statement, same_meter, unread, unworkable}
use Rattle.isl_eval.proofs.step.clear_statement.Goals as goal

pub returns-in-Err : goal.returns-in-Err
returns-in-Err c before here =
    unread before c.args.state.now c.args.meter.now c.args.options.now c.args.bytes.now here c.in-Err.refusal
    (c.in-Err.ensures before (same_meter before c.args.state.now c.args.meter.now c.args.options.now c.args.bytes.now here))

pub returns-in-Ok-check : goal.returns-in-Ok-check
returns-in-Ok-check c before here =
    clear_statement before c.args.state.now c.args.meter.now c.args.options.now c.args.bytes.now here c.in-Ok.stmt c.in-Ok-check.typed
    c.scope.result.now (c.in-Ok.ensures before (same_meter before c.args.state.now c.args.meter.now c.args.options.now c.args.bytes.now here)) c.scope.ensures
    c.in-Ok-check.ensures

pub returns-in-Err-check : goal.returns-in-Err-check
returns-in-Err-check c before here =
    unworkable before c.args.state.now c.args.meter.now c.args.options.now c.args.bytes.now here c.in-Ok.stmt c.scope.result.now
    c.in-Err-check.refusal
    (c.in-Ok.ensures before (same_meter before c.args.state.now c.args.meter.now c.args.options.now c.args.bytes.now here)) c.scope.ensures
    c.in-Err-check.ensures
