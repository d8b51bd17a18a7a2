use Rattle.isl_space.specs.Names.{joined}
use Rattle.isl_relation.specs.Wide.{PairsTooWide}
use Rattle.isl_relation.specs.Formed.{FormsCrossMaps}
use Rattle.isl_operators.proofs.FaultLaws.{formed_at_least}
use Rattle.isl_operators.proofs.pairing.of_maps.Goals as goal

pub returns-in-Cross-clause-elements : goal.returns-in-Cross-clause-elements
returns-in-Cross-clause-elements c = rw c.in-Cross.is c.cross_maps.ensures.elements

pub returns-in-Cross-clause-units : goal.returns-in-Cross-clause-units
returns-in-Cross-clause-units c =
    let left = c.args.left.now in
    let right = c.args.right.now in
    rw c.in-Cross.is
    (formed_at_least (joined left.params right.params) (PairsTooWide FormsCrossMaps left right) _ c.args.meter.now c.cross_maps.new.meter
    c.cross_maps.result c.cross_maps.ensures.units)

pub returns-in-Less-clause-elements : goal.returns-in-Less-clause-elements
returns-in-Less-clause-elements c = rw c.in-Less.is c.less_maps.ensures.elements

pub returns-in-Less-clause-units : goal.returns-in-Less-clause-units
returns-in-Less-clause-units c = rw c.in-Less.is c.less_maps.ensures.units

pub returns-in-LessEqual-clause-units : goal.returns-in-LessEqual-clause-units
returns-in-LessEqual-clause-units c = rw c.in-LessEqual.is c.less_eq_maps.ensures.units

pub returns-in-Greater-clause-elements : goal.returns-in-Greater-clause-elements
returns-in-Greater-clause-elements c = rw c.in-Greater.is c.greater_maps.ensures.elements

pub returns-in-Greater-clause-units : goal.returns-in-Greater-clause-units
returns-in-Greater-clause-units c = rw c.in-Greater.is c.greater_maps.ensures.units

pub returns-in-GreaterEqual-clause-units : goal.returns-in-GreaterEqual-clause-units
returns-in-GreaterEqual-clause-units c = rw c.in-GreaterEqual.is c.greater_eq_maps.ensures.units
