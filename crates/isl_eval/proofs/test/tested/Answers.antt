use Rattle.std.proofs.Common.{◌&&◌, refl, rules, string_bytes}
use Rattle.isl_meter.proofs.CutLemmas.{IsCharged_refl, IsCharged_trans}
use Rattle.isl_union.specs.KeptValue.{Has}
use Rattle.isl_values.specs.Ends.{Ends, EndsRow}
use Rattle.isl_values.specs.State.{scope_of}
use Rattle.isl_values.proofs.ValueLaws.{fits_later, numbers_later}
use Rattle.isl_eval.specs.Evaluation.{EndsTest, EndsTwo}
use Rattle.isl_eval.proofs.TestLaws.{refused, test_names, tested_is, unworked_on}
use Rattle.isl_eval.proofs.EndsLaws.{first_ends, past_ends, right_ends, test_forms, two_ends, two_go}
use Rattle.isl_eval.proofs.ProvedLaws.{tested_proved}
use Rattle.isl_eval.proofs.ShownLaws.{outcome_after}
use Rattle.isl_eval.proofs.test.tested.Goals as goal

pub joined_past-requires-clause-fits : goal.joined_past-requires-clause-fits
joined_past-requires-clause-fits c =
    fits_later c.args.meter.now c.value_of.new.meter c.args.state.now c.in_ok-left.ensures.made.1.charged c.requires.fits

pub joined_past-requires-clause-numbers : goal.joined_past-requires-clause-numbers
joined_past-requires-clause-numbers c =
    numbers_later c.args.meter.now c.value_of.new.meter c.in_ok-left.left.value c.in_ok-left.ensures.made.1.charged
    c.in_ok-left.ensures.made.0.numbers

pub value_of-requires-2-clause-fits : goal.value_of-requires-2-clause-fits
value_of-requires-2-clause-fits c =
    fits_later c.args.meter.now c.joined_past.new.meter c.args.state.now
    (IsCharged_trans c.args.meter.now c.value_of.new.meter c.joined_past.new.meter c.in_ok-left.ensures.made.1.charged
    c.in_ok-left-2.ensures.made.1.charged)
    c.requires.fits

pub told_with-requires-clause-left : goal.told_with-requires-clause-left
told_with-requires-clause-left c =
    numbers_later c.joined_past.new.meter c.value_of-2.new.meter c.in_ok-left-2.left.value c.in_ok-right.ensures.made.1.charged
    (numbers_later c.value_of.new.meter c.joined_past.new.meter c.in_ok-left-2.left.value c.in_ok-left-2.ensures.made.1.charged
    c.in_ok-left-2.ensures.made.0.numbers)

pub told_with-requires-clause-right : goal.told_with-requires-clause-right
told_with-requires-clause-right c =
    numbers_later c.joined_past.new.meter c.value_of-2.new.meter c.in_ok-right.right.value c.in_ok-right.ensures.made.1.charged
    c.in_ok-right.ensures.made.0.numbers

pub told_with-requires-clause-fits : goal.told_with-requires-clause-fits
told_with-requires-clause-fits c =
    fits_later c.args.meter.now c.value_of-2.new.meter c.args.state.now
    (IsCharged_trans c.args.meter.now c.value_of.new.meter c.value_of-2.new.meter c.in_ok-left.ensures.made.1.charged
    (IsCharged_trans c.value_of.new.meter c.joined_past.new.meter c.value_of-2.new.meter c.in_ok-left-2.ensures.made.1.charged
    c.in_ok-right.ensures.made.1.charged))
    c.requires.fits

pub returns : goal.returns
returns c =
    let state = c.args.state.now in
    let left = c.in_ok-left in
    let charged = IsCharged_trans c.args.meter.now c.value_of.new.meter c.value_of-2.new.meter left.ensures.made.1.charged
    (IsCharged_trans c.value_of.new.meter c.joined_past.new.meter c.value_of-2.new.meter c.in_ok-left-2.ensures.made.1.charged
    c.in_ok-right.ensures.made.1.charged) in
    let names = test_names (scope_of state) c.args.first.now c.args.before.now c.args.last.now left.left.value
    c.in_ok-left-2.left.value c.in_ok-right.right.value left.ensures.made.0.params c.in_ok-left-2.ensures.made.0.params
    c.in_ok-right.ensures.made.0.params in
    outcome_after c.told_with.result (EndsTwo c.in_ok-left-2.left.value c.in_ok-right.right.value)
    (EndsTest state c.args.first.now c.args.before.now c.args.last.now) _ _ c.args.meter.now c.value_of-2.new.meter
    c.told_with.new.meter charged
    (two_ends state c.args.first.now c.args.before.now c.args.last.now left.left.value left.ensures.made.0.params
    left.ensures.made.0.elements left.ensures.goes_on c.in_ok-left-2.ensures.goes_on c.in_ok-right.ensures.goes_on
    (test_forms c.args.last.now.operator c.requires.ready.test) _ names)
    (two_go state c.args.first.now c.args.before.now c.args.last.now left.left.value left.ensures.made.0.params
    left.ensures.made.0.elements left.ensures.goes_on c.in_ok-left-2.ensures.goes_on c.in_ok-right.ensures.goes_on
    (test_forms c.args.last.now.operator c.requires.ready.test) _ names)
    (λ verdict is. (
      tested_is state c.args.last.now.operator c.args.first.now c.args.last.now.operand c.args.before.now left.left.value
          c.in_ok-left-2.left.value c.in_ok-right.right.value verdict.holds left.ensures.made.0.elements
          c.in_ok-left-2.ensures.made.0.elements c.in_ok-right.ensures.made.0.elements is.0,
      tested_proved state c.args.last.now.operator c.args.first.now c.args.last.now.operand c.args.before.now left.left.value
          c.in_ok-left-2.left.value c.in_ok-right.right.value (verdict.holds && c.args.asked) _ _ names left.ensures.made.0.elements
          c.in_ok-left-2.ensures.made.0.elements c.in_ok-right.ensures.made.0.elements (string_bytes verdict.lines) is.1,
    ))
    c.told_with.ensures

pub returns-in_err-left : goal.returns-in_err-left
returns-in_err-left c =
    refused c.from_residual.result _ _ c.in_err-left.field-0.0 (search rules)
    (unworked_on _ (Ends c.args.state.now c.args.first.now)
    (EndsTest c.args.state.now c.args.first.now c.args.before.now c.args.last.now) c.args.meter.now c.args.meter.now
    c.value_of.new.meter c.in_err-left.field-0.0
    (first_ends c.args.state.now c.args.first.now c.args.before.now c.args.last.now) (IsCharged_refl c.args.meter.now c.args.meter.now refl)
    c.in_err-left.ensures.made)

pub returns-in_err-left-2 : goal.returns-in_err-left-2
returns-in_err-left-2 c =
    refused c.from_residual-in_err-left-2.result _ _ c.in_err-left-2.field-0.0 (search rules)
    (unworked_on _
    (EndsRow c.args.state.now c.in_ok-left.left.value.params (Has c.in_ok-left.left.value) c.args.before.now)
    (EndsTest c.args.state.now c.args.first.now c.args.before.now c.args.last.now) c.args.meter.now c.value_of.new.meter
    c.joined_past.new.meter c.in_err-left-2.field-0.0
    (past_ends c.args.state.now c.args.first.now c.args.before.now c.args.last.now c.in_ok-left.left.value
    c.in_ok-left.ensures.made.0.params c.in_ok-left.ensures.made.0.elements c.in_ok-left.ensures.goes_on)
    c.in_ok-left.ensures.made.1.charged c.in_err-left-2.ensures.made)

pub returns-in_err-right : goal.returns-in_err-right
returns-in_err-right c =
    refused c.from_residual-in_err-right.result _ _ c.in_err-right.field-0.0 (search rules)
    (unworked_on _ (Ends c.args.state.now c.args.last.now.operand)
    (EndsTest c.args.state.now c.args.first.now c.args.before.now c.args.last.now) c.args.meter.now c.joined_past.new.meter
    c.value_of-2.new.meter c.in_err-right.field-0.0
    (right_ends c.args.state.now c.args.first.now c.args.before.now c.args.last.now c.in_ok-left.left.value
    c.in_ok-left.ensures.made.0.params c.in_ok-left.ensures.made.0.elements c.in_ok-left.ensures.goes_on c.in_ok-left-2.ensures.goes_on)
    (IsCharged_trans c.args.meter.now c.value_of.new.meter c.joined_past.new.meter c.in_ok-left.ensures.made.1.charged
    c.in_ok-left-2.ensures.made.1.charged) c.in_err-right.ensures.made)
