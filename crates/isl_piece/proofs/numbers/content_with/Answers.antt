use Rattle.std.proofs.Common.{arith}
use Rattle.isl_piece.proofs.NumberSteps.{IsContentOf-first, IsContentOf-more, content_one, content_all, content_divides_first}
use Rattle.isl_piece.proofs.numbers.content_with.Goals as goal

pub loop-i-init : goal.loop-i-init
loop-i-init c = (IsContentOf-first c.args.first c.requires.first_large, c.requires.first_within)

pub loop-i-preserved : goal.loop-i-preserved
loop-i-preserved c = (
  IsContentOf-more c.args.first c.args.numbers.now c.loop-i.i c.index-numbers-i.result c.loop-i.g c.gcd-g.result (omega arith) c.index-numbers-i.is c.loop-i.invariant.0 c.gcd-g.ensures.value,
  c.gcd-g.ensures.within,
)

pub returns-then-eq-clause-value : goal.returns-then-eq-clause-value
returns-then-eq-clause-value c = content_one c.args.first c.args.numbers.now c.loop-i.i c.loop-i.g (grind arith) c.loop-i.invariant.0

pub returns-clause-value : goal.returns-clause-value
returns-clause-value c = content_all c.args.first c.args.numbers.now c.loop-i.i c.loop-i.g (omega arith) c.loop-i.invariant.0

pub returns-then-eq-clause-divides_first : goal.returns-then-eq-clause-divides_first
returns-then-eq-clause-divides_first c = content_divides_first c.args.first c.args.numbers.now c.loop-i.g (returns-then-eq-clause-value c)

pub returns-clause-divides_first : goal.returns-clause-divides_first
returns-clause-divides_first c = content_divides_first c.args.first c.args.numbers.now c.loop-i.g (returns-clause-value c)
