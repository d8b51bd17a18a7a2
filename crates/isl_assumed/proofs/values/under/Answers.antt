use Rattle.std.proofs.Common.{◌↔◌}
use Rattle.isl_blocks.proofs.ResultLaws.{ok_case, ok_has}
use Rattle.isl_union.specs.KeptValue.{KeptValue, Has}
use Rattle.isl_assumed.specs.Assumed.{Assumes}
use Rattle.isl_assumed.specs.Under.{IsUnder}
use Rattle.isl_assumed.proofs.UnderLaws.{under_assumes}
use Rattle.isl_assumed.proofs.values.under.Goals as goal

pub under_region-requires-clause-declared : goal.under_region-requires-clause-declared
under_region-requires-clause-declared c = rw c.in-Where.is at c.requires.declared

pub returns-in_ok-copy_of-in-Nothing-clause-numbers : goal.returns-in_ok-copy_of-in-Nothing-clause-numbers
returns-in_ok-copy_of-in-Nothing-clause-numbers c = rw c.in_ok-copy_of-in-Nothing.ensures.same c.requires.value

pub returns-in-Where-clause-elements : goal.returns-in-Where-clause-elements
returns-in-Where-clause-elements c v e =
    let value = c.args.value.now in
    let region = c.in-Where.region in
    let r = c.under_region.result in
    ok_case r (λ (under : KeptValue). Has under v e ↔ (Has value v e × Assumes c.args.assumed.now v)) (λ under at.
    under_assumes c.args.meter.now value under c.args.assumed.now region c.in-Where.is
    (ok_has r under (IsUnder c.args.meter.now value region.params region.systems.items) at c.under_region.ensures.under) v e)
