use Rattle.std.proofs.Common.{refl, arith, pos}
use Rattle.isl_meter.proofs.LimitLemmas.{IsWithin-small}
use Rattle.isl_bounds.proofs.HeadLaws.{plain_head}
use Rattle.isl_bounds.proofs.head.Head.plain.Goals as goal

pub returns : goal.returns
returns c =
    plain_head c.args.meter.now c.args.variables c.args.lows.now c.args.highs.now c.in_ok-low.low c.in_ok-high.high c.in_ok-low.ensures
    c.in_ok-high.ensures _ refl (IsWithin-small c.args.meter.now (pos 1) c.limit-limit.ensures.bits_low (omega arith))
