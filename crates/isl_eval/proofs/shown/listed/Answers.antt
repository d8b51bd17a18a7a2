use Rattle.isl_meter.proofs.CutLemmas.{IsCharged_trans}
use Rattle.isl_values.proofs.ValueLaws.{paid_works}
use Rattle.isl_eval.proofs.TestLaws.{at_deref}
use Rattle.isl_eval.proofs.ShownLaws.{at_numbers, listed_is, listing_goes_on, scan_failed}
use Rattle.isl_eval.proofs.shown.listed.Goals as goal

pub scan-requires-clause-within : goal.scan-requires-clause-within
scan-requires-clause-within c =
    at_deref c.args.meter.now c.value_of.new.meter c.in_ok-value.value.value c.deref-2.result.now c.in_ok-value.ensures.made.1.charged
    c.deref-2.ensures
    c.in_ok-value.ensures.made.0.numbers

pub returns-in-Ok : goal.returns-in-Ok
returns-in-Ok c =
    let numbers = at_numbers c.args.options.now.at c.in_ok-value.value.value c.deref.result.now c.deref-2.result.now c.params.result.now
    c.in_ok-numbers.numbers.items
    c.as_slice.result.now c.deref.ensures c.deref-2.ensures c.params.ensures.content c.in_ok-numbers.ensures c.as_slice.ensures.value in
    let is = listed_is c.args.state.now c.args.operand.now c.args.options.now.at c.in_ok-value.value.value c.deref-2.result.now
    c.in-Ok.listing (c.in_ok-value.ensures.made.0.elements c.args.options.now.at c.requires.assumed) c.deref-2.ensures
    (c.in-Ok.ensures.listed c.args.options.now.at numbers) in (
      (c.in-Ok.listing, is, c.in_ok-of_listing-in-Ok.ensures),
      paid_works c.args.meter.now c.scan.new.meter
          (IsCharged_trans c.args.meter.now c.value_of.new.meter c.scan.new.meter c.in_ok-value.ensures.made.1.charged c.in-Ok.ensures.meter),
      listing_goes_on c.args.state.now c.args.operand.now c.args.options.now.at c.in-Ok.listing c.in_ok-value.ensures.goes_on is,
    )

pub returns : goal.returns
returns c =
    let numbers = at_numbers c.args.options.now.at c.in_ok-value.value.value c.deref.result.now c.deref-2.result.now c.params.result.now
    c.in_ok-numbers.numbers.items
    c.as_slice.result.now c.deref.ensures c.deref-2.ensures c.params.ensures.content c.in_ok-numbers.ensures c.as_slice.ensures.value in
    scan_failed c.scan.result c.args.state.now c.args.operand.now c.args.options.now.at c.in_ok-value.value.value c.deref-2.result.now
    c.args.meter.now c.value_of.new.meter
    c.scan.new.meter c.in-Err.fault c.refusal_of_fault.result c.in-Err.is
    (c.in_ok-value.ensures.made.0.elements c.args.options.now.at c.requires.assumed) c.deref-2.ensures
    c.in_ok-value.ensures.made.1.charged
    (c.scan.ensures.unbounded c.args.options.now.at numbers) c.in-Err.ensures.meter c.refusal_of_fault.ensures
    c.in_ok-value.ensures.goes_on
