use Rattle.std.proofs.Common.{true, inl}
use Rattle.std.specs.Prelude.{Err}
use Rattle.isl_meter.proofs.CutLemmas.{IsCharged_trans}
use Rattle.isl_union.specs.KeptValue.{KeptValue}
use Rattle.isl_values.proofs.LiveEndsLaws.{dependence_cut_there, dependence_ends_live, dependence_goes_there, live_answer, live_value}
use Rattle.isl_values.proofs.ValueLaws.{numbers_later, paid_works, unworked_in}
use Rattle.isl_values.proofs.dependence.latest.Goals as goal

pub returns-in-Err-clause-made : goal.returns-in-Err-clause-made
returns-in-Err-clause-made c =
    let state = c.args.state.now in
    let three = c.args.three.now in
    let live = c.requires.live in
    let alike = dependence_ends_live state _ three.source.value three.sink.value live.source live.sink in
    unworked_in true true _ _ c.args.meter.now c.lasts.new.meter c.in-Err.refusal (λ none. absurd (let no : ⊥ = cc in no))
    (λ end ends. (alike end).0 ends) c.in-Err.ensures.made

pub live_part-requires-clause-numbers : goal.live_part-requires-clause-numbers
live_part-requires-clause-numbers c =
    let one = c.in-Ok.ensures.made in
    numbers_later c.args.meter.now c.lasts.new.meter c.in-Ok.list.first.value one.1.charged one.0.0.numbers

pub returns-in-Err-live_part-clause-made : goal.returns-in-Err-live_part-clause-made
returns-in-Err-live_part-clause-made c =
    let state = c.args.state.now in
    let three = c.args.three.now in
    let live = c.requires.live in
    let one = c.in-Ok.ensures in
    let there = dependence_cut_there state _ three.source.value three.sink.value live.source live.sink one.goes_on in
    let refused = c.in-Err-live_part in
    inl (live_answer state.assumed _ _ _ c.args.meter.now c.lasts.new.meter c.live_part.new.meter c.in-Ok.list.first.value one.made.0.0 true _
    one.made.1 (λ some. there) true (λ none. absurd (let no : ⊥ = cc in no)) (λ (v : KeptValue). v) (Err refused.refusal)
    refused.ensures.made (rw c.assumed.ensures at refused.ensures.nothing))

pub live_part-requires-2-clause-numbers : goal.live_part-requires-2-clause-numbers
live_part-requires-2-clause-numbers c =
    let one = c.in-Ok.ensures.made in
    let first = c.in-Ok-live_part.ensures.made in
    numbers_later c.args.meter.now c.live_part.new.meter c.in-Ok.list.second.value
    (IsCharged_trans c.args.meter.now c.lasts.new.meter c.live_part.new.meter one.1.charged first.1) one.0.1.numbers

pub returns-in-Ok-live_part-2-clause-made : goal.returns-in-Ok-live_part-2-clause-made
returns-in-Ok-live_part-2-clause-made c =
    let state = c.args.state.now in
    let g = c.args.meter.now in
    let k = c.live_part.new.meter in
    let m = c.live_part-2.new.meter in
    let one = c.in-Ok.ensures.made in
    let first = rw c.assumed.ensures at c.in-Ok-live_part.ensures.made in
    let second = rw c.assumed-2.ensures at c.in-Ok-live_part-2.ensures.made in
    let charged = IsCharged_trans g c.lasts.new.meter k one.1.charged first.1 in (
      (
        live_value state.assumed _ _ _ g c.lasts.new.meter k c.in-Ok.list.first.value one.0.0 c.in-Ok-live_part.first.value first.0,
        live_value state.assumed _ _ _ g k m c.in-Ok.list.second.value one.0.1 c.in-Ok-live_part-2.second.value second.0,
      ),
      paid_works g m (IsCharged_trans g k m charged second.1),
    )

pub returns-in-Ok-live_part-2-clause-goes_on : goal.returns-in-Ok-live_part-2-clause-goes_on
returns-in-Ok-live_part-2-clause-goes_on c =
    let three = c.args.three.now in
    let live = c.requires.live in
    dependence_goes_there c.args.state.now _ three.source.value three.sink.value live.source live.sink c.in-Ok.ensures.goes_on

pub returns-in-Err-live_part-2-clause-made : goal.returns-in-Err-live_part-2-clause-made
returns-in-Err-live_part-2-clause-made c =
    let state = c.args.state.now in
    let three = c.args.three.now in
    let live = c.requires.live in
    let g = c.args.meter.now in
    let k = c.live_part.new.meter in
    let one = c.in-Ok.ensures in
    let there = dependence_cut_there state _ three.source.value three.sink.value live.source live.sink one.goes_on in
    let refused = c.in-Err-live_part-2 in
    let charged = IsCharged_trans g c.lasts.new.meter k one.made.1.charged c.in-Ok-live_part.ensures.made.1 in
    inl (live_answer state.assumed _ _ _ g k c.live_part-2.new.meter c.in-Ok.list.second.value one.made.0.1 true _
    (paid_works g k charged) (λ some. there) true (λ none. absurd (let no : ⊥ = cc in no)) (λ (v : KeptValue). v) (Err refused.refusal)
    refused.ensures.made (rw c.assumed-2.ensures at refused.ensures.nothing))
