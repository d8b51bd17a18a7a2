use Rattle.std.proofs.Common.{[]}
use Rattle.std.proofs.lemmas.Bool.{false≢true}
use Rattle.isl_assumed.proofs.RegionLaws.{empty_is, region_empty}
use Rattle.isl_assumed.proofs.assumed.Assumed.is_empty.Goals as goal

pub returns-in-Nothing-clause-exact : goal.returns-in-Nothing-clause-exact
returns-in-Nothing-clause-exact c = rw c.in-Nothing.is ((λ no. absurd (false≢true no)), (λ none. absurd (none [] tt)))

pub returns-in-Where-clause-exact : goal.returns-in-Where-clause-exact
returns-in-Where-clause-exact c =
    let region = c.in-Where.region in
    let sound = rw c.in-Where.is at c.requires in
    rw c.in-Where.is
    (region_empty c.args.meter.now region.params region.systems.items sound c.is_empty.result
    (empty_is region.systems.items c.is_empty.result (rw c.as_slice.ensures.value at c.is_empty.ensures)))
