use Rattle.std.proofs.Common.{ap, sym}
use Rattle.isl_meter.specs.Gauge.{Gauge}
use Rattle.isl_assumed.proofs.MeterLaws.{sound_kept}
use Rattle.isl_values.proofs.ValueLaws.{fits_later}
use Rattle.isl_eval.proofs.ShownLaws.{fits_still, narrowed_made}
use Rattle.isl_eval.proofs.simple.narrowed.Goals as goal

pub narrow-requires-clause-set : goal.narrow-requires-clause-set
narrow-requires-clause-set c =
    sound_kept c.lower_params.new.meter c.args.meter.now c.in-Ok.set (sym (ap (λ (g : Gauge). g.bits) c.in-Ok.ensures.meter.same))
    c.in-Ok.ensures.sound

pub narrow-requires-clause-fits : goal.narrow-requires-clause-fits
narrow-requires-clause-fits c =
    fits_later c.args.meter.now c.lower_params.new.meter c.args.state.now c.in-Ok.ensures.meter c.requires.fits

pub returns-clause-made : goal.returns-clause-made
returns-clause-made c =
    narrowed_made c.args.state.now c.args.set.now c.in-Ok.set c.in-Ok.ensures.names c.in-Ok.ensures.valuations c.args.meter.now
    c.lower_params.new.meter c.narrow.new.meter c.narrow.new.self c.narrow.result c.in-Ok.ensures.meter c.narrow.ensures.ok
    c.narrow.ensures.why c.narrow.ensures.goes_on

pub returns-clause-fits : goal.returns-clause-fits
returns-clause-fits c =
    fits_still c.args.meter.now c.lower_params.new.meter c.narrow.new.self c.narrow.result c.in-Ok.ensures.meter c.narrow.ensures.fits
