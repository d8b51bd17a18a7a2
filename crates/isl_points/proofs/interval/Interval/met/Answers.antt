use Rattle.std.proofs.Common.{◌∙◌, sym}
use Rattle.isl_points.specs.Interval.{IsBetween}
use Rattle.isl_points.proofs.BoundLaws.{met_zero, met_large}
use Rattle.isl_points.proofs.interval.Interval.met.Goals as goal

pub returns-in-Zero-clause-exact : goal.returns-in-Zero-clause-exact
returns-in-Zero-clause-exact c = λ x.
    met_zero (IsBetween c.args.self.now x) (IsBetween c.narrowed-half.result x) (IsBetween c.narrowed.result x) c.args.row.now x
    c.coef-coef.result c.constant-rest.result c.neg.result c.neg-in-Zero.result (sym c.kind.ensures ∙ c.in-Zero.is) c.requires.row.formed.width
    c.coef-coef.ensures c.constant-rest.ensures c.neg.ensures.value c.neg-in-Zero.ensures.value
    (c.narrowed-half.ensures.exact x) (c.narrowed.ensures.exact x)

pub returns-in-AtLeast-clause-exact : goal.returns-in-AtLeast-clause-exact
returns-in-AtLeast-clause-exact c = λ x.
    met_large (IsBetween c.args.self.now x) (IsBetween c.narrowed-in-AtLeast.result x) c.args.row.now x
    c.coef-coef.result c.constant-rest.result (sym c.kind.ensures ∙ c.in-AtLeast.is) c.requires.row.formed.width
    c.coef-coef.ensures c.constant-rest.ensures (c.narrowed-in-AtLeast.ensures.exact x)
