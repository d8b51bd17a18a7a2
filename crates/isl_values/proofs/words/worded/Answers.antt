use Rattle.std.proofs.Common.{subst, sym}
use Rattle.std.specs.Prelude.{unsigned_abs}
use Rattle.isl_meter.specs.Gauge.{limit_of}
use Rattle.isl_meter.proofs.CutLemmas.{IsCharged_trans}
use Rattle.isl_assumed.specs.Assumed.{IsSound}
use Rattle.isl_values.specs.Three.{IsAsked}
use Rattle.isl_values.proofs.AskedLaws.{asked_goes, changed_failed, worded_answer}
use Rattle.isl_values.proofs.ValueLaws.{numbers_of, numbers_later, ok_of, same_limit}
use Rattle.isl_values.proofs.words.worded.Goals as goal

pub changed-requires-clause-numbers : goal.changed-requires-clause-numbers
changed-requires-clause-numbers c =
    numbers_of c.args.meter.now c.asked.new.meter c.in-Ok.asked.value c.deref.result.now c.in-Ok.ensures.1.charged c.deref.ensures
    c.in-Ok.ensures.0.numbers

pub live_part-requires-clause-numbers : goal.live_part-requires-clause-numbers
live_part-requires-clause-numbers c =
    numbers_later c.asked.new.meter c.changed.new.meter c.in-Ok-changed.made.value c.in-Ok-changed.ensures.made.1.charged
    c.in-Ok-changed.ensures.made.0.numbers

pub live_part-requires-clause-sound : goal.live_part-requires-clause-sound
live_part-requires-clause-sound c =
    let g = c.args.meter.now in
    let h = c.changed.new.meter in
    let charged = IsCharged_trans g c.asked.new.meter h c.in-Ok.ensures.1.charged c.in-Ok-changed.ensures.made.1.charged in
    subst (IsSound h) (sym c.assumed.ensures) (c.requires.fits.sound h (same_limit g h charged))

pub returns-in-Ok-changed : goal.returns-in-Ok-changed
returns-in-Ok-changed c =
    let state = c.args.state.now in
    let word = c.args.word in
    let operand = c.args.operand.value in
    let one = c.deref.result.now in
    let g = c.args.meter.now in
    let is = subst (IsAsked state word (unsigned_abs (limit_of g)) operand) (sym c.deref.ensures) c.in-Ok.ensures.0 in
    let e = c.in-Ok-changed.ensures in record {
      made = worded_answer state operand one c.requires.live word g c.asked.new.meter c.changed.new.meter is c.in-Ok.ensures.1
          c.live_part.new.meter c.in-Ok-changed.made.value e.goes_on e.made (λ v. v.value) c.live_part.result
          (rw c.assumed.ensures at c.live_part.ensures.made) (rw c.assumed.ensures at c.live_part.ensures.nothing);
      goes_on = ok_of c.live_part.result _ (λ v. asked_goes state operand one c.requires.live word is.of e.goes_on);
    }

pub returns-clause-made : goal.returns-clause-made
returns-clause-made c =
    let state = c.args.state.now in
    let word = c.args.word in
    let operand = c.args.operand.value in
    let g = c.args.meter.now in
    let is = subst (IsAsked state word (unsigned_abs (limit_of g)) operand) (sym c.deref.ensures) c.in-Ok.ensures.0 in
    changed_failed state operand c.deref.result.now c.requires.live word g c.asked.new.meter c.changed.new.meter is c.in-Ok.ensures.1
    c.in-Err-changed.refusal c.in-Err-changed.ensures.made
