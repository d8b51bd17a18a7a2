use Rattle.std.proofs.Common.{arith, pos}
use Rattle.isl_math.proofs.Ring.{linear}
use Rattle.isl_meter.proofs.LimitLemmas.{IsWithin-small}
use Rattle.isl_points.proofs.progression.Progression.whole.Goals as goal

pub returns : goal.returns
returns c =
    let g = c.args.meter.now in
    let low = c.limit-limit.ensures.bits_low in
    record {
      is = record {
        positive = omega (arith, linear);
        first_within = IsWithin-small g (pos 0) low (omega arith);
        step_within = IsWithin-small g (pos 1) low (omega arith);
      };
      exact = λ x. record { quotient = x; is = omega (arith, linear) };
    }
