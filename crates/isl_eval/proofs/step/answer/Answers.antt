use Rattle.std.proofs.Common.{◌≡◌, ◌∙◌, List, ap, subst, sym}
use Rattle.isl_meter.specs.Gauge.{limit_of, Gauge}
use Rattle.isl_tree.specs.declared.statement.Stmt.{Stmt}
use Rattle.isl_values.specs.State.{Fits, Moment}
use Rattle.isl_eval.specs.Evaluation.{IsTaken}
use Rattle.isl_eval.proofs.MomentLaws.{moment_of}
use Rattle.isl_eval.proofs.ChainLaws.{alone_plain}
use Rattle.isl_eval.proofs.StepLaws.{finished, IsAnswered}
use Rattle.isl_eval.proofs.step.answer.Goals as goal

-- what is taken, at the meter behind what is asked first
begun : (c : goal.After-evaluate-arg-2-1) → IsTaken (moment_of c.args.state.now c.statements_of.new.meter c.args.options.now) c.args.bytes.now
    c.as_slice.result.now c.in-Ok.taken.typed
begun c =
    let before = moment_of c.args.state.now c.statements_of.new.meter c.args.options.now in
    subst (λ (s : List Stmt). IsTaken before c.args.bytes.now s c.in-Ok.taken.typed) (sym c.as_slice.ensures.value)
    (c.in-Ok.ensures.taken before (ap (λ (g : Gauge). moment_of c.args.state.now g c.args.options.now) c.in-Ok.ensures.meter))

pub evaluate-answered-requires-clause-evaluable : goal.evaluate-answered-requires-clause-evaluable
evaluate-answered-requires-clause-evaluable c = (begun c).ready

pub evaluate-answered-requires-clause-asked : goal.evaluate-answered-requires-clause-asked
evaluate-answered-requires-clause-asked c = (begun c).each

pub evaluate-answered-requires-clause-fits : goal.evaluate-answered-requires-clause-fits
evaluate-answered-requires-clause-fits c =
    subst (λ (g : Gauge). Fits (limit_of g) c.args.state.now) (sym c.in-Ok.ensures.meter) c.requires.fits

pub forget_after-requires : goal.forget_after-requires
forget_after-requires c =
    let before = moment_of c.args.state.now c.statements_of.new.meter c.args.options.now in
    let here : before ≡ moment_of c.args.state.now c.args.meter.now c.args.options.now =
    ap (λ (g : Gauge). moment_of c.args.state.now g c.args.options.now) c.in-Ok.ensures.meter in
    λ only is.
    let all = sym c.as_slice-2.ensures.value ∙ is in
    c.evaluate-answered.ensures.settled only (c.as_slice.ensures.value ∙ all)
    (alone_plain before c.args.bytes.now _ only (c.in-Ok.ensures.taken before here) all) c.requires.settled

leaves : (c : goal.After-drop-statements) → IsAnswered (moment_of c.args.state.now c.args.meter.now c.args.options.now) c.args.bytes.now
    c.evaluate-answered.new.meter c.forget_after.new.state c.evaluate-answered.result
leaves c =
    let before = moment_of c.args.state.now c.statements_of.new.meter c.args.options.now in
    let here : before ≡ moment_of c.args.state.now c.args.meter.now c.args.options.now =
    ap (λ (g : Gauge). moment_of c.args.state.now g c.args.options.now) c.in-Ok.ensures.meter in
    let taken = subst (λ (s : List Stmt). IsTaken before c.args.bytes.now s c.in-Ok.taken.typed) (sym c.as_slice.ensures.value)
    (c.in-Ok.ensures.taken before here) in
    subst (λ (m : Moment). IsAnswered m c.args.bytes.now c.evaluate-answered.new.meter c.forget_after.new.state c.evaluate-answered.result) here
    (finished before c.args.bytes.now c.as_slice.result.now taken c.requires.settled
    (subst (λ (g : Gauge). Fits (limit_of g) c.args.state.now) (sym c.in-Ok.ensures.meter) c.requires.fits)
    c.evaluate-answered.new.state c.forget_after.new.state c.evaluate-answered.new.meter c.forget_after.ensures c.evaluate-answered.result
    c.evaluate-answered.ensures.ok c.evaluate-answered.ensures.err c.evaluate-answered.ensures.shown c.evaluate-answered.ensures.cause
    c.evaluate-answered.ensures.meter c.evaluate-answered.ensures.fits)

pub returns-clause-fits : goal.returns-clause-fits
returns-clause-fits c = (leaves c).fits

pub returns-clause-settled : goal.returns-clause-settled
returns-clause-settled c = (leaves c).settled

pub returns-clause-ok : goal.returns-clause-ok
returns-clause-ok c = (leaves c).ok

pub returns-clause-err : goal.returns-clause-err
returns-clause-err c = (leaves c).err

pub returns-clause-shown : goal.returns-clause-shown
returns-clause-shown c = (leaves c).shown

pub returns-clause-cause : goal.returns-clause-cause
returns-clause-cause c = (leaves c).cause

pub returns-clause-meter : goal.returns-clause-meter
returns-clause-meter c = (leaves c).charged
