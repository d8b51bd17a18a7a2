use Rattle.isl_remainder.proofs.SolvedLaws.{one_within}
use Rattle.isl_remainder.proofs.equations.put_into.Goals as goal

pub combination-requires-clause-m_within : goal.combination-requires-clause-m_within
combination-requires-clause-m_within c = one_within c.args.meter.now.bits c.limit-limit.ensures.bits_low
