use Rattle.isl_space.specs.Names.{joined}
use Rattle.isl_relation.specs.Wide.{PairsTooWide}
use Rattle.isl_relation.specs.Formed.{FormsCrossSets}
use Rattle.isl_operators.proofs.FaultLaws.{formed_at_least}
use Rattle.isl_operators.proofs.pairing.of_sets.Goals as goal

pub returns-in-Cross-clause-elements : goal.returns-in-Cross-clause-elements
returns-in-Cross-clause-elements c = rw c.in-Cross.is c.cross_sets.ensures.elements

pub returns-in-Cross-clause-units : goal.returns-in-Cross-clause-units
returns-in-Cross-clause-units c =
    let left = c.args.left.now in
    let right = c.args.right.now in
    rw c.in-Cross.is
    (formed_at_least (joined left.params right.params) (PairsTooWide FormsCrossSets left right) _ c.args.meter.now c.cross_sets.new.meter
    c.cross_sets.result c.cross_sets.ensures.units)

pub returns-in-Less-clause-elements : goal.returns-in-Less-clause-elements
returns-in-Less-clause-elements c = rw c.in-Less.is c.less_sets.ensures.elements

pub returns-in-Greater-clause-elements : goal.returns-in-Greater-clause-elements
returns-in-Greater-clause-elements c = rw c.in-Greater.is c.greater_sets.ensures.elements
