use Rattle.std.proofs.Common.{pos, arith}
use Rattle.isl_meter.proofs.LimitLemmas.{IsWithin-small}
use Rattle.isl_refute.proofs.steps.one.Goals as goal

pub returns-clause-within : goal.returns-clause-within
returns-clause-within c = IsWithin-small c.args.meter.now (pos 1) c.limit-limit.ensures.bits_low (omega arith)
