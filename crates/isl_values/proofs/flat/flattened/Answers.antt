use Rattle.std.proofs.Common.{refl, subst, sym}
use Rattle.std.specs.Prelude.{unsigned_abs}
use Rattle.isl_meter.specs.Gauge.{limit_of}
use Rattle.isl_meter.proofs.CutLemmas.{IsCharged_refl}
use Rattle.isl_union.specs.KeptValue.{HasNoDefinitions, IsKeptValue}
use Rattle.isl_state.specs.State.{HasNumbersUpTo}
use Rattle.isl_values.proofs.FlatLaws.{flat_live_answer, live_flat_itself}
use Rattle.isl_values.proofs.ValueLaws.{numbers_later}
use Rattle.isl_values.proofs.flat.flattened.Goals as goal

pub returns-then-is_flat-clause-made : goal.returns-then-is_flat-clause-made
returns-then-is_flat-clause-made c = (
  live_flat_itself c.args.state.now.assumed (unsigned_abs (limit_of c.args.meter.now)) c.args.value.value
      (subst IsKeptValue c.deref.ensures c.if-is_flat.ensures.kept) c.requires.live c.requires.numbers
      (subst HasNoDefinitions c.deref.ensures (c.if-is_flat.ensures.told.0 refl)),
  IsCharged_refl c.args.meter.now c.args.meter.now refl,
)

pub flat_copy-requires : goal.flat_copy-requires
flat_copy-requires c = subst (HasNumbersUpTo (unsigned_abs (limit_of c.args.meter.now))) (sym c.deref-2.ensures) c.requires.numbers

pub live_part-requires-clause-numbers : goal.live_part-requires-clause-numbers
live_part-requires-clause-numbers c =
    numbers_later c.args.meter.now c.flat_copy.new.meter c.in-Ok.flat.value c.in-Ok.ensures.1 c.in-Ok.ensures.0.numbers

pub returns-in-Ok-clause-made : goal.returns-in-Ok-clause-made
returns-in-Ok-clause-made c =
    flat_live_answer c.args.state.now.assumed c.args.meter.now c.flat_copy.new.meter c.live_part.new.meter c.args.value.value
    c.deref-2.result.now c.in-Ok.flat.value c.deref-2.ensures c.in-Ok.ensures.0 c.in-Ok.ensures.1 (λ v. v.value) c.live_part.result
    (rw c.assumed.ensures at c.live_part.ensures.made)
