use Rattle.isl_values.proofs.ValueLaws.{numbers_later}
use Rattle.std.proofs.Common.{rules}
use Rattle.isl_union.specs.Compare.{IsSubset}
use Rattle.isl_eval.proofs.TestLaws.{proper_is, refused, second_fault}
use Rattle.isl_eval.proofs.test.is_proper_part.Goals as goal

pub is_subset-requires-2-clause-own : goal.is_subset-requires-2-clause-own
is_subset-requires-2-clause-own c =
    numbers_later c.args.meter.now c.is_subset.new.meter c.args.right.now c.in_ok-is_subset.ensures.units.1 c.requires.right

pub is_subset-requires-2-clause-other : goal.is_subset-requires-2-clause-other
is_subset-requires-2-clause-other c =
    numbers_later c.args.meter.now c.is_subset.new.meter c.args.left.now c.in_ok-is_subset.ensures.units.1 c.requires.left

pub returns-in_err-turned-clause-units : goal.returns-in_err-turned-clause-units
returns-in_err-turned-clause-units c =
    refused c.from_residual-in_err-turned.result _ _ c.in_err-turned.field-0.0 (search rules)
    (second_fault c.args.left.now c.args.right.now c.pieces-left.ensures.kept c.pieces-right.ensures.kept c.args.meter.now
    c.is_subset.new.meter c.is_subset-2.new.meter c.in_err-turned.field-0.0 c.in_ok-is_subset.ensures.units.0
    c.in_ok-is_subset.ensures.units.1 c.in_err-turned.ensures.units)

pub returns-clause-exact : goal.returns-clause-exact
returns-clause-exact c =
    proper_is c.in_ok-is_subset.field-0 c.in_ok-turned.turned (IsSubset c.args.left.now c.args.right.now)
    (IsSubset c.args.right.now c.args.left.now) c.in_ok-is_subset.ensures.exact (search rules) c.in_ok-turned.ensures.exact
