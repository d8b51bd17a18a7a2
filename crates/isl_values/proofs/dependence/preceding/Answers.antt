use Rattle.std.proofs.Common.{true, subst, sym}
use Rattle.isl_assumed.specs.Assumed.{IsSound}
use Rattle.isl_values.proofs.LiveEndsLaws.{dependence_cut_there, dependence_ends_live, dependence_goes_there, live_answer}
use Rattle.isl_outcome.proofs.PaidLaws.{unworked_of}
use Rattle.isl_values.proofs.ValueLaws.{numbers_later, ok_of, same_limit, unworked_in}
use Rattle.isl_values.proofs.dependence.preceding.Goals as goal

pub live_part-requires-clause-numbers : goal.live_part-requires-clause-numbers
live_part-requires-clause-numbers c =
    numbers_later c.args.meter.now c.related.new.meter c.in-Ok.made.value c.in-Ok.ensures.made.1.charged c.in-Ok.ensures.made.0.numbers

pub live_part-requires-clause-sound : goal.live_part-requires-clause-sound
live_part-requires-clause-sound c =
    let h = c.related.new.meter in
    subst (IsSound h) (sym c.assumed.ensures)
    (c.requires.fits.sound h (same_limit c.args.meter.now h c.in-Ok.ensures.made.1.charged))

pub returns-in-Ok : goal.returns-in-Ok
returns-in-Ok c =
    let state = c.args.state.now in
    let three = c.args.three.now in
    let g = c.args.meter.now in
    let h = c.related.new.meter in
    let k = c.live_part.new.meter in
    let one = c.in-Ok.ensures in
    let live = c.requires.live in
    let goes = dependence_goes_there state _ three.source.value three.sink.value live.source live.sink one.goes_on in
    let there = dependence_cut_there state _ three.source.value three.sink.value live.source live.sink one.goes_on in record {
      made = unworked_of c.live_part.result _ true _ g k
          (live_answer state.assumed _ _ _ g h k c.in-Ok.made.value one.made.0 true _ one.made.1 (λ some. there) true
          (λ none. absurd (let no : ⊥ = cc in no)) (λ v. v.value) c.live_part.result
          (rw c.assumed.ensures at c.live_part.ensures.made) (rw c.assumed.ensures at c.live_part.ensures.nothing));
      goes_on = ok_of c.live_part.result _ (λ v. goes);
    }

pub returns-in-Err : goal.returns-in-Err
returns-in-Err c =
    let state = c.args.state.now in
    let three = c.args.three.now in
    let live = c.requires.live in
    let alike = dependence_ends_live state _ three.source.value three.sink.value live.source live.sink in
    record {
      made = unworked_in true true _ _ c.args.meter.now c.related.new.meter c.in-Err.refusal (λ none. absurd (let no : ⊥ = cc in no))
          (λ end ends. (alike end).0 ends) c.in-Err.ensures.made;
      goes_on = tt;
    }
