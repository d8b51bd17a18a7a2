use Rattle.std.proofs.Common.{ap, false, refl, subst, sym}
use Rattle.isl_meter.specs.Gauge.{limit_of}
use Rattle.isl_meter.proofs.CutLemmas.{IsCharged_refl}
use Rattle.isl_assumed.specs.Assumed.{IsSound}
use Rattle.isl_values.specs.Live.{narrows}
use Rattle.isl_values.specs.Ends.{CutUnder}
use Rattle.isl_values.proofs.LiveEndsLaws.{live_answer}
use Rattle.isl_values.proofs.ValueLaws.{numbers_later, paid_same, unmade_memory}
use Rattle.isl_values.proofs.postfixes.inverted.Goals as goal

pub live_part-requires-clause-numbers : goal.live_part-requires-clause-numbers
live_part-requires-clause-numbers c =
    let g = c.args.meter.now in
    let h = c.turned.new.meter in
    numbers_later g h c.in-Ok.made.value (IsCharged_refl g h c.turned.ensures.meter) c.in-Ok.ensures.made.numbers

pub live_part-requires-clause-sound : goal.live_part-requires-clause-sound
live_part-requires-clause-sound c =
    let h = c.turned.new.meter in
    subst (IsSound h) (sym c.assumed.ensures) (c.requires.fits.sound h (ap limit_of c.turned.ensures.meter))

pub returns-in-Ok : goal.returns-in-Ok
returns-in-Ok c =
    let state = c.args.state.now in
    let g = c.args.meter.now in
    let h = c.turned.new.meter in
    live_answer state.assumed _ _ _ g h c.live_part.new.meter c.in-Ok.made.value c.in-Ok.ensures.made false (CutUnder state)
    (paid_same false g h c.turned.ensures.meter) (λ some. some) (narrows state.assumed) (λ none. (refl, none))
    (λ v. v.value) c.live_part.result
    (rw c.assumed.ensures at c.live_part.ensures.made) (rw c.assumed.ensures at c.live_part.ensures.nothing)

pub returns-in-Err : goal.returns-in-Err
returns-in-Err c =
    let state = c.args.state.now in
    let g = c.args.meter.now in
    let h = c.turned.new.meter in
    unmade_memory (narrows state.assumed) (CutUnder state) g h c.in-Err.refusal c.in-Err.ensures.faults
    (paid_same (narrows state.assumed) g h c.turned.ensures.meter)
