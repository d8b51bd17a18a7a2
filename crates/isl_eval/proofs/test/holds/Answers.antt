use Rattle.std.proofs.Common.{refl}
use Rattle.isl_eval.proofs.TestLaws.{at_test, turned_units}
use Rattle.isl_eval.proofs.test.holds.Goals as goal

pub returns-in-Equal-clause-exact : goal.returns-in-Equal-clause-exact
returns-in-Equal-clause-exact c =
    at_test c.is_equal.result c.args.test _ c.args.left.now
    c.args.right.now _ c.in-Equal.is c.is_equal.ensures.exact refl

pub returns-in-Subset-clause-exact : goal.returns-in-Subset-clause-exact
returns-in-Subset-clause-exact c =
    at_test c.is_subset.result c.args.test _ c.args.left.now c.args.right.now _ c.in-Subset.is c.is_subset.ensures.exact refl

pub returns-in-Superset-clause-exact : goal.returns-in-Superset-clause-exact
returns-in-Superset-clause-exact c =
    at_test c.is_subset-in-Superset.result c.args.test _ c.args.left.now c.args.right.now _ c.in-Superset.is
    c.is_subset-in-Superset.ensures.exact refl

pub returns-in-ProperSubset-clause-exact : goal.returns-in-ProperSubset-clause-exact
returns-in-ProperSubset-clause-exact c =
    at_test c.is_proper_part.result c.args.test _ c.args.left.now c.args.right.now _ c.in-ProperSubset.is
    c.is_proper_part.ensures.exact refl

pub returns-in-ProperSuperset-clause-exact : goal.returns-in-ProperSuperset-clause-exact
returns-in-ProperSuperset-clause-exact c =
    at_test c.is_proper_part-in-ProperSuperset.result c.args.test _ c.args.left.now
    c.args.right.now _ c.in-ProperSuperset.is
    c.is_proper_part-in-ProperSuperset.ensures.exact refl

pub returns-in-Superset-clause-units : goal.returns-in-Superset-clause-units
returns-in-Superset-clause-units c =
    turned_units c.args.left.now c.args.right.now c.args.meter.now c.is_subset-in-Superset.new.meter c.is_subset-in-Superset.result
    c.pieces-left.ensures.kept c.pieces-right.ensures.kept c.is_subset-in-Superset.ensures.units

pub returns-in-ProperSuperset-clause-units : goal.returns-in-ProperSuperset-clause-units
returns-in-ProperSuperset-clause-units c =
    turned_units c.args.left.now c.args.right.now c.args.meter.now c.is_proper_part-in-ProperSuperset.new.meter
    c.is_proper_part-in-ProperSuperset.result
    c.pieces-left.ensures.kept c.pieces-right.ensures.kept c.is_proper_part-in-ProperSuperset.ensures.units
