use Rattle.isl_blocks.proofs.ResultLaws.{ok_case, ok_has}
use Rattle.isl_union.specs.KeptValue.{KeptValue}
use Rattle.isl_assumed.specs.declared.assumed.Assumed.TheVariants.{Nothing}
use Rattle.isl_assumed.specs.Assumed.{Assumes}
use Rattle.isl_assumed.specs.Under.{IsLiveValue}
use Rattle.isl_assumed.specs.Values.{AreLiveUnder}
use Rattle.isl_assumed.proofs.UnderLaws.{live_assumes}
use Rattle.isl_assumed.proofs.ValueLaws.{live_whole}
use Rattle.isl_assumed.proofs.values.live.Goals as goal

pub returns-in_ok-copy_of-in-Nothing-clause-pieces : goal.returns-in_ok-copy_of-in-Nothing-clause-pieces
returns-in_ok-copy_of-in-Nothing-clause-pieces c =
    let value = c.args.value.now in
    let kept = c.copy_of.ensures.kept in
    rw (c.in-Nothing.is, c.in_ok-copy_of-in-Nothing.ensures.same)
    (live_whole (Assumes Nothing) value.params (λ v. tt) kept.params.distinct value.pieces kept.pieces)

pub returns-in-Where-clause-pieces : goal.returns-in-Where-clause-pieces
returns-in-Where-clause-pieces c =
    let value = c.args.value.now in
    let region = c.in-Where.region in
    let r = c.live_in.result in
    ok_case r (λ (live : KeptValue). AreLiveUnder c.args.assumed.now value.params value.pieces live.pieces) (λ live at.
    live_assumes c.args.meter.now value live c.args.assumed.now region c.in-Where.is
    (ok_has r live (IsLiveValue c.args.meter.now value region.params region.systems.items) at c.live_in.ensures.live))
