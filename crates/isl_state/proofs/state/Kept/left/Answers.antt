use Rattle.std.specs.Prelude.{unsigned_abs}
use Rattle.std.proofs.Common.{subst, sym}
use Rattle.isl_meter.specs.Gauge.{limit_of}
use Rattle.isl_assumed.proofs.MeterLaws.{sound_later}
use Rattle.isl_state.specs.declared.list.ListPart.TheVariants.{First, Second}
use Rattle.isl_state.specs.Live.{IsLivePartOf}
use Rattle.isl_state.specs.State.{value_at, HasNumbersUpTo}
use Rattle.isl_state.proofs.LiveLaws.{part_plain}
use Rattle.isl_state.proofs.NarrowLaws.{left_plain}
use Rattle.isl_state.proofs.StateLaws.{numbers_of}
use Rattle.isl_state.proofs.state.Kept.left.Goals as goal

pub live_part-requires-clause-numbers : goal.live_part-requires-clause-numbers
live_part-requires-clause-numbers c =
    subst (HasNumbersUpTo (unsigned_abs (limit_of c.args.meter.now))) (sym c.in_ok-shared.ensures.shared) (c.requires.numbers First)

pub new-requires : goal.new-requires
new-requires c =
    part_plain c.args.assumed.now (value_at First c.args.self.now) c.in_ok-first.first.value
    (subst (λ v. IsLivePartOf c.args.assumed.now v c.in_ok-first.first.value) c.in_ok-shared.ensures.shared
    c.in_ok-first.ensures.made.0.part)
    c.in_ok-shared.ensures.definitions

pub live_part-requires-2-clause-numbers : goal.live_part-requires-2-clause-numbers
live_part-requires-2-clause-numbers c =
    numbers_of c.args.meter.now c.live_part.new.meter (value_at Second c.args.self.now) c.in_ok-shared-2.field-0.value
    c.in_ok-first.ensures.made.1 c.in_ok-shared-2.ensures.shared (c.requires.numbers Second)

pub live_part-requires-2-clause-sound : goal.live_part-requires-2-clause-sound
live_part-requires-2-clause-sound c =
    sound_later c.args.meter.now c.live_part.new.meter c.args.assumed.now c.in_ok-first.ensures.made.1 c.requires.sound

pub invariant_of-result : goal.invariant_of-result
invariant_of-result c =
    left_plain c.args.assumed.now c.args.self.now c.self.inside.kind c.in_ok-shared.field-0.value c.in_ok-shared-2.field-0.value
    c.in_ok-first.first.value c.in_ok-second.second.value c.in_ok-shared.ensures.shared c.in_ok-shared-2.ensures.shared
    c.in_ok-first.ensures.made.0.part c.in_ok-second.ensures.made.0.part c.in_ok-shared.ensures.definitions
    c.in_ok-shared-2.ensures.definitions c.in_ok-shared-2.ensures.params
