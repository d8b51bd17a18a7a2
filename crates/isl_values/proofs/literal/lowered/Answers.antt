use Rattle.std.proofs.Common.{true, subst, sym}
use Rattle.isl_assumed.specs.Assumed.{IsSound}
use Rattle.isl_values.specs.Ends.{CutAlone}
use Rattle.isl_values.proofs.LiveEndsLaws.{live_answer}
use Rattle.isl_values.proofs.ValueLaws.{numbers_later, same_limit}
use Rattle.isl_values.proofs.literal.lowered.Goals as goal

pub live_part-requires-clause-numbers : goal.live_part-requires-clause-numbers
live_part-requires-clause-numbers c =
    numbers_later c.args.meter.now c.written.new.meter c.in-Ok.value.value c.in-Ok.ensures.1.charged c.in-Ok.ensures.0.numbers

pub live_part-requires-clause-sound : goal.live_part-requires-clause-sound
live_part-requires-clause-sound c =
    let h = c.written.new.meter in
    subst (IsSound h) (sym c.assumed.ensures) (c.requires.fits.sound h (same_limit c.args.meter.now h c.in-Ok.ensures.1.charged))

pub returns-in-Ok : goal.returns-in-Ok
returns-in-Ok c =
    let one = c.in-Ok.ensures in
    live_answer c.args.state.now.assumed _ _ _ c.args.meter.now c.written.new.meter c.live_part.new.meter c.in-Ok.value.value one.0 true
    CutAlone one.1 (λ some. tt) true (λ none. absurd (let no : ⊥ = cc in no)) (λ v. v.value) c.live_part.result
    (rw c.assumed.ensures at c.live_part.ensures.made) (rw c.assumed.ensures at c.live_part.ensures.nothing)
