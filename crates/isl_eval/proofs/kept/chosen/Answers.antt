use Rattle.std.proofs.Common.{rules}
use Rattle.isl_meter.proofs.CutLemmas.{IsCharged_trans}
use Rattle.isl_values.proofs.FlatLaws.{unmade_later}
use Rattle.isl_eval.proofs.AssumedLaws.{chosen_is}
use Rattle.isl_eval.proofs.TestLaws.{at_deref}
use Rattle.isl_eval.proofs.kept.chosen.Goals as goal

pub sample-requires : goal.sample-requires
sample-requires c =
    at_deref c.args.meter.now c.under_own.new.meter c.in_ok-under.under.value c.deref.result.now c.in_ok-under.ensures.1.charged c.deref.ensures
    c.in_ok-under.ensures.0.numbers

pub returns-in-Ok : goal.returns-in-Ok
returns-in-Ok c = (
  chosen_is c.args.state.now.assumed c.args.meter.now c.under_own.new.meter _ c.args.value.value c.in_ok-under.under.value
      c.deref.result.now c.in-Ok.sample c.in_ok-new-in-Ok.field-0.value c.in_ok-under.ensures.0 c.deref.ensures c.in-Ok.ensures.exact
      c.in-Ok.ensures.kept c.in-Ok.ensures.definitions c.in-Ok.ensures.within c.in_ok-new-in-Ok.ensures.ok c.in_ok-under.ensures.1.charged,
  IsCharged_trans c.args.meter.now c.under_own.new.meter c.sample.new.meter c.in_ok-under.ensures.1.charged c.in-Ok.ensures.meter,
)

pub returns-in_err-new-in-Ok : goal.returns-in_err-new-in-Ok
returns-in_err-new-in-Ok c =
    unmade_later c.from_residual-in_err-new-in-Ok.result _ c.args.meter.now c.sample.new.meter (search rules)
    (IsCharged_trans c.args.meter.now c.under_own.new.meter c.sample.new.meter c.in_ok-under.ensures.1.charged c.in-Ok.ensures.meter)
