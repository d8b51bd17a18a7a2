use Rattle.std.proofs.Common.{◌≤◌, ◌^◌, length, refl, rules}
use Rattle.isl_eval.proofs.MomentLaws.{moment_of}
use Rattle.isl_eval.proofs.TakenLaws.{taken, unasked}
use Rattle.isl_eval.proofs.RefusalLaws.{unasked_kept}
use Rattle.isl_eval.proofs.step.statements_of.Goals as goal

pub returns-in_ok-flatten-in-Ok-ask-clause-taken : goal.returns-in_ok-flatten-in-Ok-ask-clause-taken
returns-in_ok-flatten-in-Ok-ask-clause-taken c before here =
    let short : length c.in_ok-flatten-in-Ok-ask.field-0.items ≤ 2 ^ 64 = search rules in
    taken before c.args.state.now c.args.meter.now c.args.options.now c.args.bytes.now here c.in-Ok.found.stmt
    c.in_ok-flatten-in-Ok-ask.field-0.items (c.in-Ok.ensures before here) c.in-Ok-ask.ensures.0 c.in_ok-flatten-in-Ok-ask.ensures short

pub returns-in-Err-ask-clause-taken : goal.returns-in-Err-ask-clause-taken
returns-in-Err-ask-clause-taken c before here =
    unasked before c.args.state.now c.args.meter.now c.args.options.now c.args.bytes.now here c.in-Ok.found.stmt c.ask.new.meter
    c.in-Err-ask.refusal (c.in-Ok.ensures before here) c.in-Err-ask.ensures

pub returns-in-Err-ask-clause-meter : goal.returns-in-Err-ask-clause-meter
returns-in-Err-ask-clause-meter c =
    let before = moment_of c.args.state.now c.args.meter.now c.args.options.now in
    let clear = c.in-Ok.ensures before refl in
    unasked_kept before c.args.bytes.now c.in-Ok.found.stmt clear.read clear.able c.ask.new.meter c.in-Err-ask.refusal c.in-Err-ask.ensures
