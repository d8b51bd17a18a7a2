use Rattle.isl_bounds.proofs.FirstLaws.{unit_end, unit_told, unit_wide}
use Rattle.isl_bounds.proofs.first.first_turn.Goals as goal

pub aligned_form-requires-clause-width : goal.aligned_form-requires-clause-width
aligned_form-requires-clause-width c =
    let end = c.in-Some.end.now in
    unit_wide c.args.meter.now c.args.variables end c.args.step.now c.in_ok-low-in-Some.low c.in_ok-own-in-Some.own
    (unit_end c.args.meter.now c.args.variables c.args.lows.now end c.in-Some.ensures.0 c.requires.lows) c.requires.step
    c.in_ok-low-in-Some.ensures.exact c.in_ok-own-in-Some.ensures.exact

pub returns-in_ok-own-in-Some : goal.returns-in_ok-own-in-Some
returns-in_ok-own-in-Some c =
    let end = c.in-Some.end.now in
    unit_told c.aligned_form.result c.args.meter.now c.aligned_form.new.meter c.args.variables c.args.lows.now end c.args.step.now
    c.in_ok-low-in-Some.low c.in_ok-own-in-Some.own c.modulus.result c.in-Some.ensures.0
    (unit_end c.args.meter.now c.args.variables c.args.lows.now end c.in-Some.ensures.0 c.requires.lows) c.in-Some.ensures.1
    c.requires.step c.in_ok-low-in-Some.ensures.exact c.in_ok-own-in-Some.ensures.exact c.modulus.ensures c.aligned_form.ensures
