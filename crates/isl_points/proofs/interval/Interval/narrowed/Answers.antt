use Rattle.std.proofs.Common.{◌<ℤ◌, pos, arith}
use Rattle.isl_points.proofs.BoundLaws.{raised_is, lowered_is}
use Rattle.isl_points.proofs.interval.Interval.narrowed.Goals as goal

pub returns-then-is_positive-clause-exact : goal.returns-then-is_positive-clause-exact
returns-then-is_positive-clause-exact c = λ x.
    let above : pos 0 <ℤ c.args.coef = grind arith in
    raised_is c.args.self.now.low c.args.self.now.high c.raised.result c.args.coef c.args.rest c.quotient.result c.neg-low.result x above
    c.quotient.ensures.value c.neg-low.ensures.value (c.raised.ensures.exact x)

pub returns-then-is_negative-clause-exact : goal.returns-then-is_negative-clause-exact
returns-then-is_negative-clause-exact c = λ x.
    let below : c.args.coef <ℤ pos 0 = grind arith in
    lowered_is c.args.self.now.low c.args.self.now.high c.lowered.result c.args.coef c.args.rest c.neg.result c.quotient-high.result x
    below
    c.neg.ensures.value c.quotient-high.ensures.value (c.lowered.ensures.exact x)
