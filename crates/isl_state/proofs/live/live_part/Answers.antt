use Rattle.std.proofs.Common.{refl, subst, sym}
use Rattle.std.specs.Prelude.{unsigned_abs}
use Rattle.isl_meter.specs.Gauge.{limit_of}
use Rattle.isl_meter.proofs.CutLemmas.{IsCharged_refl}
use Rattle.isl_state.specs.State.{HasNumbersUpTo}
use Rattle.isl_state.proofs.LiveLaws.{live_nothing}
use Rattle.isl_state.proofs.live.live_part.Goals as goal

pub live_copy-requires-clause-numbers : goal.live_copy-requires-clause-numbers
live_copy-requires-clause-numbers c =
    subst (HasNumbersUpTo (unsigned_abs (limit_of c.args.meter.now))) (sym c.deref.ensures) c.requires.numbers

pub returns-in-Nothing-clause-made : goal.returns-in-Nothing-clause-made
returns-in-Nothing-clause-made c =
    rw c.in-Nothing.is (
      record { part = live_nothing c.args.value.value c.requires.kept; kept = c.requires.kept },
      IsCharged_refl c.args.meter.now c.args.meter.now refl,
    )
