use Rattle.std.proofs.Common.{[], inl, inr, refl, rules, subst, sym}
use Rattle.std.specs.Prelude.{unsigned_abs}
use Rattle.isl_tree.specs.declared.statement.Binary.TheVariants as b
use Rattle.isl_meter.specs.Gauge.{limit_of}
use Rattle.isl_meter.proofs.CutLemmas.{IsCharged_refl, IsCharged_trans}
use Rattle.isl_union.specs.KeptValue.{HasNoDefinitions, IsKeptValue, KeptValue}
use Rattle.isl_flat.specs.Flat.{link_of}
use Rattle.isl_values.specs.Ends.{Ends, GoesOn}
use Rattle.isl_values.proofs.ValueLaws.{fits_later, numbers_later}
use Rattle.isl_eval.specs.Evaluation.{EndsPair, EndsTwo, IsGistIn}
use Rattle.isl_eval.proofs.EndsLaws.{two_ends, two_go}
use Rattle.isl_eval.proofs.TestLaws.{at_deref, refused, unworked_on}
use Rattle.isl_eval.proofs.ShownLaws.{flat_at, gist_later, outcome_after, pair_names, simplified_is}
use Rattle.isl_eval.proofs.kept.simplified.Goals as goal

pub flat_value_of-requires-2-clause-fits : goal.flat_value_of-requires-2-clause-fits
flat_value_of-requires-2-clause-fits c =
    fits_later c.args.meter.now c.flat_value_of.new.meter c.args.state.now c.in_ok-value.ensures.made.1.charged c.requires.fits

pub gist_in-requires-clause-kept : goal.gist_in-requires-clause-kept
gist_in-requires-clause-kept c = subst IsKeptValue (sym c.deref.ensures) c.in_ok-value.ensures.made.0.kept

pub gist_in-requires-clause-numbers : goal.gist_in-requires-clause-numbers
gist_in-requires-clause-numbers c =
    at_deref c.flat_value_of.new.meter c.flat_value_of-2.new.meter c.in_ok-value.value.value c.deref.result.now
    c.in_ok-context.ensures.made.1.charged c.deref.ensures
    (numbers_later c.args.meter.now c.flat_value_of.new.meter c.in_ok-value.value.value c.in_ok-value.ensures.made.1.charged
    c.in_ok-value.ensures.made.0.numbers)

pub gist_in-requires-clause-context_numbers : goal.gist_in-requires-clause-context_numbers
gist_in-requires-clause-context_numbers c =
    numbers_later c.flat_value_of.new.meter c.flat_value_of-2.new.meter c.in_ok-context.context.value c.in_ok-context.ensures.made.1.charged
    c.in_ok-context.ensures.made.0.numbers

pub gist_in-requires-clause-definitions : goal.gist_in-requires-clause-definitions
gist_in-requires-clause-definitions c = subst HasNoDefinitions (sym c.deref.ensures) (c.in_ok-value.ensures.made.0.definitions tt)

pub gist_in-requires-clause-context_definitions : goal.gist_in-requires-clause-context_definitions
gist_in-requires-clause-context_definitions c = c.in_ok-context.ensures.made.0.definitions tt

pub gist_in-requires-clause-fits : goal.gist_in-requires-clause-fits
gist_in-requires-clause-fits c =
    fits_later c.args.meter.now c.flat_value_of-2.new.meter c.args.state.now
    (IsCharged_trans c.args.meter.now c.flat_value_of.new.meter c.flat_value_of-2.new.meter c.in_ok-value.ensures.made.1.charged
    c.in_ok-context.ensures.made.1.charged)
    c.requires.fits

pub returns : goal.returns
returns c =
    let state = c.args.state.now in
    let g = c.args.meter.now in
    let one = c.in_ok-value.ensures in
    let charged = IsCharged_trans g c.flat_value_of.new.meter c.flat_value_of-2.new.meter one.made.1.charged
    c.in_ok-context.ensures.made.1.charged in
    let two = flat_at state c.args.right.now g c.flat_value_of.new.meter c.in_ok-context.context.value one.made.1.charged
    c.in_ok-context.ensures.made.0 in
    let names = pair_names state c.args.left.now c.args.right.now (unsigned_abs (limit_of g)) c.in_ok-value.value.value
    c.in_ok-context.context.value one.made.0 two in
    let last = link_of b.Gist c.args.right.now in
    outcome_after c.gist_in.result (EndsTwo c.deref.result.now c.in_ok-context.context.value)
    (EndsPair state c.args.left.now b.Gist c.args.right.now) _ _ g c.flat_value_of-2.new.meter c.gist_in.new.meter charged
    (λ why ends. two_ends state c.args.left.now [] last c.in_ok-value.value.value one.made.0.params one.made.0.elements one.goes_on
    (λ reason no. no) c.in_ok-context.ensures.goes_on (λ s t formed no. no) _ names why
    (subst (λ (k : KeptValue). EndsTwo k c.in_ok-context.context.value why) c.deref.ensures ends))
    (λ goes. two_go state c.args.left.now [] last c.in_ok-value.value.value one.made.0.params one.made.0.elements one.goes_on
    (λ reason no. no) c.in_ok-context.ensures.goes_on (λ s t formed no. no) _ names
    (subst (λ (k : KeptValue). GoesOn (EndsTwo k c.in_ok-context.context.value)) c.deref.ensures goes))
    (λ gist is. simplified_is state c.args.left.now c.args.right.now (unsigned_abs (limit_of g)) c.in_ok-value.value.value
    c.in_ok-context.context.value one.made.0 two gist.value
    (subst (λ (k : KeptValue). IsGistIn state (unsigned_abs (limit_of g)) k c.in_ok-context.context.value gist.value) c.deref.ensures
    (gist_later state g c.flat_value_of-2.new.meter c.deref.result.now c.in_ok-context.context.value gist.value charged is)))
    c.gist_in.ensures

pub returns-in_err-value : goal.returns-in_err-value
returns-in_err-value c =
    refused c.from_residual.result _ _ c.in_err-value.field-0.0 (search rules)
    (unworked_on _ (Ends c.args.state.now c.args.left.now)
    (EndsPair c.args.state.now c.args.left.now b.Gist c.args.right.now) c.args.meter.now c.args.meter.now
    c.flat_value_of.new.meter c.in_err-value.field-0.0
    (λ why ends. inl ends) (IsCharged_refl c.args.meter.now c.args.meter.now refl)
    c.in_err-value.ensures.made)

pub returns-in_err-context : goal.returns-in_err-context
returns-in_err-context c =
    refused c.from_residual-in_err-context.result _ _ c.in_err-context.field-0.0 (search rules)
    (unworked_on _ (Ends c.args.state.now c.args.right.now)
    (EndsPair c.args.state.now c.args.left.now b.Gist c.args.right.now) c.args.meter.now c.flat_value_of.new.meter
    c.flat_value_of-2.new.meter c.in_err-context.field-0.0
    (λ why ends. inr (c.in_ok-value.ensures.goes_on, inl ends))
    c.in_ok-value.ensures.made.1.charged c.in_err-context.ensures.made)
