use Rattle.std.proofs.Common.{rules}
use Rattle.isl_assumed.proofs.RegionLaws.{numbers_next}
use Rattle.isl_assumed.proofs.region.numbers_of.Goals as goal

pub loop-place-preserved : goal.loop-place-preserved
loop-place-preserved c =
    numbers_next c.args.params.now c.args.at.now c.loop-place.place c.name.result.now c.loop-place.numbers.items c.push.new.self.items
    c.number_of.result
    c.name.ensures c.loop-place.invariant c.number_of.ensures (search rules)
