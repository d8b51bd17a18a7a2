use Rattle.tests_calls.proofs.Within.{value_within}
use Rattle.tests_calls.proofs.limit.is_within.Goals as goal

pub returns : goal.returns
returns c is = value_within c.args.meter.now c.args.value.now c.pieces.result.now c.pieces.ensures.content (c.are_within.ensures is)
