use Rattle.isl_assumed.proofs.MeterLaws.{sound_later}
use Rattle.tests_calls.proofs.Within.{value_later}
use Rattle.tests_calls.proofs.operation.live_with_other.Goals as goal

pub live-requires-clause-value : goal.live-requires-clause-value
live-requires-clause-value c = value_later c.args.meter.now c.of.new.meter c.args.value.now c.in_ok-assumed.ensures.meter c.requires.own

pub live-requires-clause-assumed : goal.live-requires-clause-assumed
live-requires-clause-assumed c =
    sound_later c.args.meter.now c.of.new.meter c.in_ok-assumed.assumed c.in_ok-assumed.ensures.meter c.in_ok-assumed.ensures.sound
