use Rattle.std.proofs.Common.{◌-◌, ap}
use Rattle.isl_extremes.proofs.AnswerLaws.{closed_or_empty}
use Rattle.isl_extremes.proofs.ends.is_closed.Goals as goal

pub returns-clause-exact : goal.returns-clause-exact
returns-clause-exact c =
    closed_or_empty c.args.direction c.args.system.now (c.free.result - 1) c.as_slice.result.now c.has_end.result c.if-has_end.false
    (ap (λ n. n - 1) c.free.ensures) c.as_slice.ensures c.has_end.ensures c.is_empty.result c.is_empty.ensures.exact
