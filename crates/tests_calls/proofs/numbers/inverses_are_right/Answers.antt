use Rattle.std.proofs.Common.{arith, pos}
use Rattle.isl_math.proofs.Ring.{linear}
use Rattle.isl_math.proofs.DivideLaws.{coprime_from_sum}
use Rattle.tests_calls.proofs.numbers.inverses_are_right.Goals as goal

-- 2 * -3 + 7 is 1
pub inverse-requires-clause-coprime : goal.inverse-requires-clause-coprime
inverse-requires-clause-coprime c =
    let a = c.new-three.ensures in
    let b = c.new-seven.ensures in
    coprime_from_sum _ _ (pos 2) (pos 1) (omega (arith, linear))

pub inverse-requires-2-clause-coprime : goal.inverse-requires-2-clause-coprime
inverse-requires-2-clause-coprime c = coprime_from_sum _ _ (pos 0) (pos 1) (omega (arith, linear))
