use Rattle.std.proofs.Common.{◌<◌, ◌∷◌, ◌++◌, List, Option, arith, length, subst, [], rules}
use Rattle.isl_kinds.specs.Typed.{TypeView}
use Rattle.isl_tree.specs.declared.statement.Stmt.{Stmt}
use Rattle.isl_values.specs.State.{Moment, scope_of}
use Rattle.isl_eval.specs.Evaluation.{AreEvaluable, AreLeft}
use Rattle.isl_eval.proofs.MomentLaws.{moment_of}
use Rattle.isl_eval.proofs.TestLaws.{refused}
use Rattle.isl_eval.proofs.StepLaws.{alone_settled, turn_alone, last_typed, left_first, left_start, loop_first, loop_last}
use Rattle.isl_eval.proofs.StepLaws.{asked_last, asked_next, fits_last, loop_next, loop_stopped, paid_last, stopped_last, answered_last, shown_last}
use Rattle.isl_eval.proofs.step.evaluate.Goals as goal
use Rattle.isl_eval.proofs.step.evaluate.Goals.{After-eval_typed}

pub loop-stmt-init : goal.loop-stmt-init
loop-stmt-init c =
    left_start (moment_of c.args.state.now c.args.meter.now c.args.options.now) (c.in-Some.others.now ++ c.in-Some.last.now ∷ [])
    (subst (λ (s : List Stmt). AreEvaluable (scope_of c.args.state.now) s c.args.typed) c.in-Some.ensures.cases.0 c.requires.evaluable) c.requires.fits

pub eval-requires-clause-evaluable : goal.eval-requires-clause-evaluable
eval-requires-clause-evaluable c =
    let low : c.loop-stmt.stmt-index < length c.in-Some.others.now = omega arith in
    (left_first (moment_of c.args.state.now c.args.meter.now c.args.options.now)
    (moment_of c.loop-stmt.state c.loop-stmt.meter c.args.options.now) _ c.stmt-item.result _
    (loop_first (moment_of c.args.state.now c.args.meter.now c.args.options.now)
    (moment_of c.loop-stmt.state c.loop-stmt.meter c.args.options.now) _ c.in-Some.others.now
    c.in-Some.last.now c.stmt-item.result c.loop-stmt.stmt-index low c.stmt-item.is c.loop-stmt.invariant)).0

pub eval-requires-clause-fits : goal.eval-requires-clause-fits
eval-requires-clause-fits c =
    let low : c.loop-stmt.stmt-index < length c.in-Some.others.now = omega arith in
    (left_first (moment_of c.args.state.now c.args.meter.now c.args.options.now)
    (moment_of c.loop-stmt.state c.loop-stmt.meter c.args.options.now) _ c.stmt-item.result _
    (loop_first (moment_of c.args.state.now c.args.meter.now c.args.options.now)
    (moment_of c.loop-stmt.state c.loop-stmt.meter c.args.options.now) _ c.in-Some.others.now
    c.in-Some.last.now c.stmt-item.result c.loop-stmt.stmt-index low c.stmt-item.is c.loop-stmt.invariant)).1

pub eval-requires-clause-asked : goal.eval-requires-clause-asked
eval-requires-clause-asked c =
    let low : c.loop-stmt.stmt-index < length c.in-Some.others.now = omega arith in
    asked_next (moment_of c.args.state.now c.args.meter.now c.args.options.now)
    (moment_of c.loop-stmt.state c.loop-stmt.meter c.args.options.now) c.args.statements.now c.in-Some.others.now _ _ c.in-Some.last.now
    c.stmt-item.result c.loop-stmt.stmt-index c.in-Some.ensures.cases.0 low c.stmt-item.is c.requires.asked c.loop-stmt.invariant

pub eval_typed-requires-clause-asked : goal.eval_typed-requires-clause-asked
eval_typed-requires-clause-asked c =
    asked_last (moment_of c.args.state.now c.args.meter.now c.args.options.now)
    (moment_of c.loop-stmt.state c.loop-stmt.meter c.args.options.now) c.args.statements.now c.in-Some.others.now _ _ c.in-Some.last.now
    c.in-Some.ensures.cases.0 c.requires.asked c.loop-stmt.invariant

pub loop-stmt-preserved : goal.loop-stmt-preserved
loop-stmt-preserved c =
    let low : c.loop-stmt.stmt-index < length c.in-Some.others.now = omega arith in
    loop_next (moment_of c.args.state.now c.args.meter.now c.args.options.now) (moment_of c.loop-stmt.state c.loop-stmt.meter c.args.options.now)
    (moment_of c.eval.new.state c.eval.new.meter c.args.options.now) c.in-Some.others.now c.in-Some.last.now c.stmt-item.result
    c.loop-stmt.stmt-index _ low c.stmt-item.is c.loop-stmt.invariant c.in_ok-eval.ensures.ok c.in_ok-eval.ensures.meter
    c.in_ok-eval.ensures.dollar c.in_ok-eval.ensures.fits

pub returns-in_err-eval-clause-cause : goal.returns-in_err-eval-clause-cause
returns-in_err-eval-clause-cause c =
    let low : c.loop-stmt.stmt-index < length c.in-Some.others.now = omega arith in
    refused c.from_residual.result _ _ c.in_err-eval.field-0.0 (search rules)
    (loop_stopped (moment_of c.args.state.now c.args.meter.now c.args.options.now)
    (moment_of c.loop-stmt.state c.loop-stmt.meter c.args.options.now) c.args.statements.now
    c.in-Some.others.now c.in-Some.last.now c.stmt-item.result c.loop-stmt.stmt-index c.eval.new.meter c.in_err-eval.field-0.0
    c.in-Some.ensures.cases.0 low
    c.stmt-item.is c.loop-stmt.invariant c.in_err-eval.ensures.cause)

pub eval_typed-requires-clause-typed : goal.eval_typed-requires-clause-typed
eval_typed-requires-clause-typed c =
    last_typed (moment_of c.args.state.now c.args.meter.now c.args.options.now)
    (moment_of c.loop-stmt.state c.loop-stmt.meter c.args.options.now) c.in-Some.others.now c.in-Some.last.now
    (loop_last (moment_of c.args.state.now c.args.meter.now c.args.options.now)
    (moment_of c.loop-stmt.state c.loop-stmt.meter c.args.options.now) c.in-Some.others.now
    c.in-Some.last.now c.loop-stmt.stmt-index (omega arith) c.loop-stmt.invariant)

pub eval_typed-requires-clause-fits : goal.eval_typed-requires-clause-fits
eval_typed-requires-clause-fits c =
    (left_first (moment_of c.args.state.now c.args.meter.now c.args.options.now)
    (moment_of c.loop-stmt.state c.loop-stmt.meter c.args.options.now) _ c.in-Some.last.now _
    (loop_last (moment_of c.args.state.now c.args.meter.now c.args.options.now)
    (moment_of c.loop-stmt.state c.loop-stmt.meter c.args.options.now) c.in-Some.others.now
    c.in-Some.last.now c.loop-stmt.stmt-index (omega arith) c.loop-stmt.invariant)).1

pub returns-in_err-eval-clause-settled : goal.returns-in_err-eval-clause-settled
returns-in_err-eval-clause-settled c =
    let low : c.loop-stmt.stmt-index < length c.in-Some.others.now = omega arith in
    λ only is plain settled. turn_alone c.args.statements.now c.in-Some.others.now c.in-Some.last.now only c.loop-stmt.stmt-index
    c.in-Some.ensures.cases.0 is low

-- ---- behind the last
abbrev first : After-eval_typed → Moment
first c = moment_of c.args.state.now c.args.meter.now c.args.options.now

abbrev then : After-eval_typed → Moment
then c = moment_of c.loop-stmt.state c.loop-stmt.meter c.args.options.now

abbrev after : After-eval_typed → Moment
after c = moment_of c.eval_typed.new.state c.eval_typed.new.meter c.args.options.now

left : (c : After-eval_typed)
    → (type : Option TypeView) × AreLeft (first c) (then c) c.in-Some.others.now (c.in-Some.last.now ∷ []) type
left c =
    (_, loop_last (first c) (then c) c.in-Some.others.now c.in-Some.last.now c.loop-stmt.stmt-index (omega arith) c.loop-stmt.invariant)

pub returns-clause-ok : goal.returns-clause-ok
returns-clause-ok c =
    answered_last (first c) (then c) (after c) c.args.statements.now c.in-Some.others.now c.in-Some.last.now c.eval_typed.result
    c.in-Some.ensures.cases.0 (left c).1 c.eval_typed.ensures.ok c.eval_typed.ensures.meter

pub returns-clause-shown : goal.returns-clause-shown
returns-clause-shown c =
    shown_last (first c) (then c) (after c) c.in-Some.others.now c.in-Some.last.now c.eval_typed.result (left c).1 c.eval_typed.ensures.ok

pub returns-clause-cause : goal.returns-clause-cause
returns-clause-cause c =
    stopped_last (first c) (then c) c.args.statements.now c.in-Some.others.now c.in-Some.last.now c.eval_typed.new.meter
    c.eval_typed.result c.in-Some.ensures.cases.0 (left c).1 c.eval_typed.ensures.cause

pub returns-clause-meter : goal.returns-clause-meter
returns-clause-meter c =
    paid_last (first c) (then c) (after c) c.args.statements.now c.in-Some.others.now c.in-Some.last.now c.eval_typed.result
    c.in-Some.ensures.cases.0 (left c).1 c.eval_typed.ensures.meter

pub returns-clause-settled : goal.returns-clause-settled
returns-clause-settled c =
    λ only is plain settled. alone_settled (first c) (then c) c.args.statements.now c.in-Some.others.now c.in-Some.last.now only
    c.eval_typed.new.state c.in-Some.ensures.cases.0 is (left c).1 plain settled c.eval_typed.ensures.settled

pub returns-clause-fits : goal.returns-clause-fits
returns-clause-fits c =
    fits_last (first c) (then c) c.in-Some.others.now c.in-Some.last.now c.eval_typed.new.state c.eval_typed.result (left c).1
    c.eval_typed.ensures.fits
