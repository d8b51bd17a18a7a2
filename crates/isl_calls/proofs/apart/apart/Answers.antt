use Rattle.std.proofs.Common.{◌≡◌, ◌<◌, ◌≤◌, ◌++◌, refl, subst, arith, length, take, List}
use Rattle.std.proofs.lemmas.Grind.{common_steps}
use Rattle.std.proofs.lemmas.List.{take_all}
use Rattle.isl_meter.specs.Gauge.{IsCharged}
use Rattle.isl_meter.proofs.CutLemmas.{IsCharged_refl, IsCharged_trans}
use Rattle.isl_calls.specs.declared.calls.Calls.{Calls}
use Rattle.isl_calls.specs.Apart.{AreApartOf}
use Rattle.isl_calls.proofs.ApartLaws.{apart_more, earlier_even, earlier_have, left_kept, none_apart, sound_later}
use Rattle.isl_calls.proofs.apart.apart.Goals as goal

pub loop-i-init : goal.loop-i-init
loop-i-init c =
    let g = c.args.meter.now in
    (rw c.new-apart.ensures.items (none_apart g c.args.calls.now), IsCharged_refl g g refl)

pub left_of-requires-clause-sound : goal.left_of-requires-clause-sound
left_of-requires-clause-sound c =
    let calls = c.args.calls.now in
    let low : c.loop-i.i < length calls = grind (arith, common_steps) in
    sound_later c.args.meter.now c.loop-i.meter calls c.loop-i.i c.index-calls-i.result low c.index-calls-i.is c.loop-i.invariant.1
    c.requires.sound

pub left_of-requires-clause-earlier_sound : goal.left_of-requires-clause-earlier_sound
left_of-requires-clause-earlier_sound c =
    earlier_have c.args.meter.now c.loop-i.meter c.args.calls.now c.loop-i.i c.loop-i.invariant.1 c.requires.sound

pub left_of-requires-clause-columns : goal.left_of-requires-clause-columns
left_of-requires-clause-columns c =
    let calls = c.args.calls.now in
    let low : c.loop-i.i < length calls = grind (arith, common_steps) in
    earlier_even calls c.loop-i.i c.index-calls-i.result low c.index-calls-i.is c.requires.even

pub loop-i-preserved : goal.loop-i-preserved
loop-i-preserved c =
    let g = c.args.meter.now in
    let h = c.loop-i.meter in
    let k = c.left_of.new.meter in
    let calls = c.args.calls.now in
    let i = c.loop-i.i in
    let one = c.index-calls-i.result in
    let made = c.loop-i.apart.items in
    let left = c.in_ok-left.left.items in
    let low : i < length calls = grind (arith, common_steps) in
    let pushed : c.append.new.calls.items ≡ made ++ left = c.in_ok-append.ensures.items in
    let charged : IsCharged h k = grind arith in
    let rest = left_kept g h one (take i calls) left c.loop-i.invariant.1 c.in_ok-left.ensures.left in (
      apart_more g calls i one low c.index-calls-i.is made left c.requires.sound c.requires.even c.loop-i.invariant.0 rest
          c.append.new.calls.items pushed,
      IsCharged_trans g h k c.loop-i.invariant.1 charged,
    )

pub returns-clause-apart : goal.returns-clause-apart
returns-clause-apart c =
    let calls = c.args.calls.now in
    let past : length calls ≤ c.loop-i.i = grind (arith, common_steps) in
    subst (λ (xs : List Calls). AreApartOf c.args.meter.now xs c.loop-i.apart.items) (take_all c.loop-i.i calls past) c.loop-i.invariant.0
