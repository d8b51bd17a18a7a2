use Rattle.isl_meter.proofs.CutLemmas.{IsCharged_trans}
use Rattle.isl_values.proofs.ValueLaws.{fits_later, match_map, numbers_later, paid_works}
use Rattle.isl_eval.proofs.ShownLaws.{sampled_is, work_cut, work_goes, worked_selects}
use Rattle.isl_eval.proofs.kept.sampled.Goals as goal

pub chosen-requires-clause-numbers : goal.chosen-requires-clause-numbers
chosen-requires-clause-numbers c =
    numbers_later c.args.meter.now c.value_of.new.meter c.in_ok-value.value.value c.in_ok-value.ensures.made.1.charged
    c.in_ok-value.ensures.made.0.numbers

pub chosen-requires-clause-fits : goal.chosen-requires-clause-fits
chosen-requires-clause-fits c =
    fits_later c.args.meter.now c.value_of.new.meter c.args.state.now c.in_ok-value.ensures.made.1.charged c.requires.fits

pub returns : goal.returns
returns c =
    let one = c.in_ok-value.ensures in
    match_map c.chosen.result _ _ _ _
    (λ sample h. (
      sampled_is c.args.state.now c.args.operand.now c.args.meter.now c.value_of.new.meter c.in_ok-value.value.value sample.value
          (worked_selects c.args.state.now c.args.operand.now _ c.in_ok-value.value.value one.made.0) one.made.0.params one.made.1.charged h.0,
      paid_works c.args.meter.now c.chosen.new.meter
          (IsCharged_trans c.args.meter.now c.value_of.new.meter c.chosen.new.meter one.made.1.charged h.1),
      work_goes c.args.state.now c.args.operand.now one.goes_on,
    ))
    (λ refusal h. work_cut c.args.state.now c.args.operand.now c.args.meter.now c.value_of.new.meter c.chosen.new.meter refusal one.goes_on
    one.made.1.charged h)
    c.chosen.ensures
