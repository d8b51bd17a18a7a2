use Rattle.std.proofs.Common.{refl}
use Rattle.isl_assumed.proofs.RegionLaws.{onto_assumes}
use Rattle.isl_assumed.proofs.assumed.Assumed.onto.Goals as goal

pub returns-in-Nothing-clause-valuations : goal.returns-in-Nothing-clause-valuations
returns-in-Nothing-clause-valuations c v = ((λ u. (v, refl, rw c.in-Nothing.is tt)), (λ some. tt))

pub returns-in_ok-params-in-Where-clause-valuations : goal.returns-in_ok-params-in-Where-clause-valuations
returns-in_ok-params-in-Where-clause-valuations c v =
    onto_assumes c.args.meter.now c.args.self.now c.in-Where.region c.args.params.now c.in_ok-params-in-Where.params
    c.in_ok-systems-in-Where.systems.items c.in-Where.is c.in_ok-params-in-Where.ensures c.in_ok-systems-in-Where.ensures.onto v
