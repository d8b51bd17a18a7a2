use Rattle.std.proofs.Common.{subst, sym}
use Rattle.std.specs.Prelude.{unsigned_abs}
use Rattle.isl_meter.specs.Gauge.{limit_of}
use Rattle.isl_meter.proofs.CutLemmas.{IsCharged_trans}
use Rattle.isl_union.specs.KeptValue.{HasNoDefinitions, KeptValue}
use Rattle.isl_values.specs.Live.{IsLiveUnder}
use Rattle.isl_values.proofs.ValueLaws.{fits_later, match_map, paid_works}
use Rattle.isl_eval.specs.Evaluation.{IsPutAt}
use Rattle.isl_eval.proofs.TestLaws.{at_deref}
use Rattle.isl_eval.proofs.ShownLaws.{flat_selects, together_is, work_cut, work_goes}
use Rattle.isl_eval.proofs.kept.together.Goals as goal

pub coalesced-requires-clause-live : goal.coalesced-requires-clause-live
coalesced-requires-clause-live c =
    subst (IsLiveUnder c.args.state.now.assumed) (sym c.deref.ensures) c.in_ok-value.ensures.made.0.live

pub coalesced-requires-clause-numbers : goal.coalesced-requires-clause-numbers
coalesced-requires-clause-numbers c =
    at_deref c.args.meter.now c.flat_value_of.new.meter c.in_ok-value.value.value c.deref.result.now c.in_ok-value.ensures.made.1.charged
    c.deref.ensures
    c.in_ok-value.ensures.made.0.numbers

pub coalesced-requires-clause-definitions : goal.coalesced-requires-clause-definitions
coalesced-requires-clause-definitions c =
    subst HasNoDefinitions (sym c.deref.ensures) (c.in_ok-value.ensures.made.0.definitions tt)

pub coalesced-requires-clause-fits : goal.coalesced-requires-clause-fits
coalesced-requires-clause-fits c =
    fits_later c.args.meter.now c.flat_value_of.new.meter c.args.state.now c.in_ok-value.ensures.made.1.charged c.requires.fits

pub returns : goal.returns
returns c =
    let one = c.in_ok-value.ensures in
    match_map c.coalesced.result _ _ _ _
    (λ together h. (
      together_is c.args.state.now c.args.operand.now c.args.meter.now c.flat_value_of.new.meter c.in_ok-value.value.value together.value
          (flat_selects c.args.state.now c.args.operand.now _ c.in_ok-value.value.value one.made.0) one.made.0.params one.made.1.charged
          (subst (λ (k : KeptValue). IsPutAt c.args.state.now (unsigned_abs (limit_of c.flat_value_of.new.meter)) k together.value) c.deref.ensures h.0),
      paid_works c.args.meter.now c.coalesced.new.meter
          (IsCharged_trans c.args.meter.now c.flat_value_of.new.meter c.coalesced.new.meter one.made.1.charged h.1),
      work_goes c.args.state.now c.args.operand.now one.goes_on,
    ))
    (λ refusal h. work_cut c.args.state.now c.args.operand.now c.args.meter.now c.flat_value_of.new.meter c.coalesced.new.meter refusal
    one.goes_on one.made.1.charged h)
    c.coalesced.ensures
