use Rattle.std.proofs.Common.{arith, to_z-of_z}
use Rattle.std.proofs.lemmas.Grind.{common_steps}
use Rattle.isl_affine.proofs.RowLaws.{compared_remainder, compared_difference}
use Rattle.isl_affine.proofs.comparison.compared.Goals as goal

pub returns-in_ok-new-in-Some : goal.returns-in_ok-new-in-Some
returns-in_ok-new-in-Some c = (
  compared_remainder c.args.meter.now c.args.scope.now c.args.system c.in_ok-new-in-Some.new c.args.comparison.now.compare
      c.args.comparison.now.left.now c.args.comparison.now.right.now c.in-Some.factor.now c.in-Some.modulus _ c.congruence_kind.result
      c.in-Some.ensures c.requires.left_known c.congruence_kind.ensures c.in_ok-new-in-Some.ensures.0
      (grind (arith, common_steps, to_z-of_z)),
  c.in_ok-new-in-Some.ensures.1,
)

pub returns-in_ok-new-in-None : goal.returns-in_ok-new-in-None
returns-in_ok-new-in-None c = (
  compared_difference c.args.meter.now c.args.scope.now c.args.system c.in_ok-new-in-None.new c.args.comparison.now.compare
      c.args.comparison.now.left.now c.args.comparison.now.right.now c.difference-difference.result.greater.now
      c.difference-difference.result.less.now c.difference-difference.result.bound c.requires.single c.in-None.ensures
      c.difference-difference.ensures c.in_ok-new-in-None.ensures.0,
  c.in_ok-new-in-None.ensures.1,
)
