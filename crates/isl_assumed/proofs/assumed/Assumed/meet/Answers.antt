use Rattle.std.proofs.Common.{◌∙◌, refl, sym}
use Rattle.isl_meter.proofs.CutLemmas.{IsCharged_refl}
use Rattle.isl_assumed.proofs.RegionLaws.{nothing_joined}
use Rattle.isl_assumed.proofs.assumed.Assumed.meet.Goals as goal

pub returns-in_ok-copy-in-Nothing-Where-clause-names : goal.returns-in_ok-copy-in-Nothing-Where-clause-names
returns-in_ok-copy-in-Nothing-Where-clause-names c =
    rw (c.in-Nothing-Where.is-0, c.in-Nothing-Where.is-1)
    (c.in_ok-copy-in-Nothing-Where.ensures.0 ∙ sym (nothing_joined c.in-Nothing-Where.region.params))

pub returns-in_ok-copy-in-Nothing-Where-clause-units : goal.returns-in_ok-copy-in-Nothing-Where-clause-units
returns-in_ok-copy-in-Nothing-Where-clause-units c =
    let g = c.args.meter.now in
    let sound = rw c.in-Nothing-Where.is-1 at c.requires.other in (
      rw (c.in-Nothing-Where.is-0, c.in-Nothing-Where.is-1, nothing_joined c.in-Nothing-Where.region.params) sound.named.few,
      IsCharged_refl g g refl,
    )

pub returns-in_ok-meet-in-Where-Where-clause-valuations : goal.returns-in_ok-meet-in-Where-Where-clause-valuations
returns-in_ok-meet-in-Where-Where-clause-valuations c v =
    rw (c.in-Where-Where.is-0, c.in-Where-Where.is-1) (c.in_ok-meet-in-Where-Where.ensures.valuations v)
