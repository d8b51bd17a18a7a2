use Rattle.std.proofs.Common.{subst, sym}
use Rattle.std.specs.Prelude.{unsigned_abs}
use Rattle.isl_meter.specs.Gauge.{limit_of}
use Rattle.isl_state.specs.State.{HasNumbersUpTo}
use Rattle.isl_values.proofs.ValueLaws.{numbers_later}
use Rattle.isl_values.proofs.operands.both_under.Goals as goal

pub left_under-requires-clause-numbers : goal.left_under-requires-clause-numbers
left_under-requires-clause-numbers c =
    subst (HasNumbersUpTo (unsigned_abs (limit_of c.args.meter.now))) (sym c.in_ok-clone.ensures.cases) c.requires.left

pub right_under-requires-clause-numbers : goal.right_under-requires-clause-numbers
right_under-requires-clause-numbers c =
    numbers_later c.args.meter.now c.left_under.new.meter c.args.right.value c.in_ok-first.ensures.1.charged c.requires.right
