use Rattle.std.specs.Prelude.{unsigned_abs}
use Rattle.isl_meter.specs.Gauge.{limit_of}
use Rattle.isl_eval.proofs.AssumedLaws.{put_is}
use Rattle.isl_eval.proofs.kept.coalesced.Goals as goal

pub returns-in_ok-new-in-Ok : goal.returns-in_ok-new-in-Ok
returns-in_ok-new-in-Ok c =
    let e = c.in-Ok.ensures in (
      put_is c.args.state.now (unsigned_abs (limit_of c.args.meter.now)) c.args.value.now c.in-Ok.together c.in_ok-new-in-Ok.field-0.value
          c.assumed.result.now c.assumed.ensures c.requires.live e.elements e.coalesced e.kept e.numbers e.definitions
          c.in_ok-new-in-Ok.ensures.ok,
      e.meter,
    )
